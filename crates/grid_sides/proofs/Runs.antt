-- Laws on the runs over a grid's axes: the longest side, the sum of squares. Assumes nothing.
use Rattle.std.proofs.Common.{◌≡◌, ℕ, zero, suc, ◌+◌, ◌-◌, ◌≤◌, max, true, false, pos, sym, not-suc-le-zero, arith}
use lib.ListN.{get_or-eq_default}
use lib.Ieee.{Float, fin, binary64, add}
use Rattle.refusal.specs.Limits.{most_dimension}
use Rattle.grid_sides.specs.declared.Sides.{Sides}
use Rattle.grid_sides.specs.declared.Steps.{Steps}
use Rattle.grid_sides.specs.Counts.{share, nearest_whole, axis_count, side_fits, all_sides, side_of, unfit, larger_of, longest_to}
use Rattle.grid_sides.specs.Lengths.{all_steps, step_of, square_of, squares_to}

pub side-past : (s : Sides) (i : ℕ) → most_dimension ≤ i → fin false 0 (pos 0) ≡ side_of s i
unfolding side_of
side-past s i h = sym (get_or-eq_default (all_sides s) (fin false 0 (pos 0)) h)

pub step_past : (s : Steps) (i : ℕ) → most_dimension ≤ i → 0 ≡ step_of s i
unfolding step_of
step_past s i h = sym (get_or-eq_default (all_steps s) 0 h)

pub fits-not-bad : (s : Sides) (i : ℕ) (x : Float) → x ≡ side_of s i → side_fits x ≡ true → false ≡ unfit s i
fits-not-bad s i x hx h = let e : side_fits (side_of s i) ≡ true = rw hx at h in rw e

pub unfit-bad : (s : Sides) (i : ℕ) (x : Float) → x ≡ side_of s i → side_fits x ≡ false → true ≡ unfit s i
unfit-bad s i x hx h = let e : side_fits (side_of s i) ≡ false = rw hx at h in rw e

pub longest-more : (s : Sides) (i : ℕ) (x y r : Float) → 1 ≤ i → x ≡ longest_to s (i - 1) → y ≡ side_of s i → r ≡ larger_of x y → r ≡ longest_to s (i + 1 - 1)
unfolding longest_to
longest-more s zero x y r h hx hy hr = absurd (not-suc-le-zero h)
longest-more s (suc k) x y r h hx hy hr =
    let a : suc k - 1 ≡ k = omega arith in
    let b : suc k + 1 - 1 ≡ suc k = omega arith in
    let c : x ≡ longest_to s k = rw a at hx in
    rw (b, hr, c, hy)

pub squares-more : (g : Sides) (s : Steps) (i n : ℕ) (x h q r : Float) → 1 ≤ i → x ≡ squares_to g s (i - 1) → n ≡ step_of s i → h ≡ side_of g i → q ≡ square_of n h → r ≡ add binary64 x q → r ≡ squares_to g s (i + 1 - 1)
unfolding squares_to
squares-more g s zero n x h q r l hx hn hh hq hr = absurd (not-suc-le-zero l)
squares-more g s (suc k) n x h q r l hx hn hh hq hr =
    let a : suc k - 1 ≡ k = omega arith in
    let b : suc k + 1 - 1 ≡ suc k = omega arith in
    let c : x ≡ squares_to g s k = rw a at hx in
    rw (b, hr, c, hq, hn, hh)

pub squares-first : (g : Sides) (s : Steps) (n : ℕ) (h q : Float) → n ≡ step_of s 0 → h ≡ side_of g 0 → q ≡ square_of n h → q ≡ squares_to g s 0
unfolding squares_to
squares-first g s n h q hn hh hq = rw (hq, hn, hh)

pub count_of : (x l t : Float) (n f w a r : ℕ) → t ≡ share x l n → w ≡ nearest_whole t → a ≡ max w 1 → r ≡ max a f → r ≡ axis_count x l n f
unfolding axis_count
count_of x l t n f w a r ht hw ha hr = rw (hr, ha, hw, ht)
