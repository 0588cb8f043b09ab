-- The slots' test says what coherent signs of cells say: the walk's links are the cells' mates (orientation_signs/proofs/Linking). Assumes nothing.
use mathlib.Core.Bool.{Bool, true, false}
use mathlib.Core.List.{List}
use mathlib.Core.Path.{◌≡◌, refl, sym, ap, ◌∙◌, subst}
use mathlib.Core.Logic.{◌⊎◌, inl, inr, ⊎_elim}
use Prim.Native.Nat.{ℕ, zero, suc, ◌+◌, ◌*◌, ◌/◌, ◌%◌, ◌<◌}
use native.Mathlib.Nat.{mul-add-div_right, div-eq_of_lt, add-zero, suc-mul, mul-suc, mul-le-mul_right}
use native.Mathlib.Omega.{arith}
use lib.ListN.{length, get_or}
use Rattle.complex.specs.Facets.{slots}
use Rattle.lists.specs.Words.{none}
use Rattle.complex_mates.specs.Table.{MateTable, Across}
use Rattle.complex_facets.specs.WorkAcross.{Linked}
use Rattle.lists.proofs.Rows.{row-cell-below, row-slot-below, row_is, slots-some}
use Rattle.orientation_walk.specs.WorkSigns as walk
use Rattle.orientation_walk.specs.WorkSigns.{turned, Link}
use Rattle.multiindex.specs.Sign.{Sign, plus, minus}
use Rattle.orientation_signs.specs.Signs.{Coherent}
use Rattle.orientation_signs.specs.WorkFound.{sign_of}
use Rattle.orientation_signs.proofs.Linking.{across-in, searching-links, coherent-up, coherent-down}
use Rattle.orientation_by.specs.WorkTest.{AgreesAt, Clash, Looking, Weighing, Testing, Tested}

-- what looking at the slots asks
pub looking : (d m : ℕ) (o fl marks : List ℕ) → Weighing d m o fl marks → (k : ℕ) → k ≡ slots d → Looking k (m * k) o fl marks
looking d m o fl marks w k e =
    let t = searching-links d m o fl marks marks w.searching k e in
    let long = w.searching.marks_long in
    record {
      others = t.others;
      flips = t.flips;
      some = λ x h. slots-some x m k h;
      cells = λ x h s. omega (arith, t.cells x h s);
      own = λ x h. omega (arith, row-cell-below x m k h);
      small = λ x h. (w.signs (x / k) (row-cell-below x m k h)).small;
    }

mark-cases : (n : ℕ) → walk.Sign n → ((n ≡ 1) × (sign_of n ≡ plus)) ⊎ ((n ≡ 2) × (sign_of n ≡ minus))
mark-cases zero s = absurd (omega (arith, s.some))
mark-cases (suc zero) s = inl (refl, refl)
mark-cases (suc (suc zero)) s = inr (refl, refl)
mark-cases (suc (suc (suc n))) s = absurd (omega (arith, s.small))

module _ (d m : ℕ) (o fl marks : List ℕ) (w : Weighing d m o fl marks) (cs : List (List ℕ)) (many : length cs ≡ m) (l : Linked d cs o fl) where
  a : (x : ℕ) → x < m * slots d → Across (slots d) l.mates o fl x
  a = across-in d m cs many o fl l

  few : m < none
  few = omega (arith, w.searching.few, mul-suc m d)

  -- each link agrees where each slot does
  up : ((x : ℕ) → x < m * slots d → AgreesAt (slots d) o fl marks x) → Coherent d cs (λ c. sign_of (get_or marks c 0))
  up all =
      coherent-up d m cs many l.mates l.table w.searching.few o fl a (λ c. get_or marks c 0)
      (record {
        signs = w.signs;
        agree =
            λ c j f u.
            let k = slots d in
            let s = u.slot in
            let below = u.below in
            let h : c * k + s < m * k = omega (arith, suc-mul c k, mul-le-mul_right k u.from) in
            let e : (c * k + s) / k ≡ c = mul-add-div_right (omega arith) c s ∙ ap (λ (x : ℕ). c + x) (div-eq_of_lt below) ∙ add-zero c in
            let some : get_or o (c * k + s) 0 ≡ none → ⊥ = λ z. omega (arith, u.to, u.cell, few) in
            sym (ap (λ (z : ℕ). get_or marks z 0) u.to) ∙ all (c * k + s) h some ∙ ap (λ (z : ℕ). turned z (get_or marks ((c * k + s) / k) 0)) u.by ∙ ap (λ (z : ℕ). turned f (get_or marks z 0)) e;
      })

  -- and coherent signs agree across each link
  down : (σ : ℕ → Sign) → ((c : ℕ) → c < m → ((get_or marks c 0 ≡ 1) × (σ c ≡ plus)) ⊎ ((get_or marks c 0 ≡ 2) × (σ c ≡ minus))) → Coherent d cs σ → (c j f : ℕ) → Link m (slots d) o fl c j f → get_or marks j 0 ≡ turned f (get_or marks c 0)
  down σ cases p c j f u =
      let e = (coherent-down d m cs many l.mates l.table w.searching.few o fl a σ p).agree c j f u in
      ⊎_elim
      (λ x. ⊎_elim (λ y. rw (x.0, y.0) (rw (x.1, y.1) at e)) (λ y. rw (x.0, y.0) (rw (x.1, y.1) at e)) (cases j u.cell))
      (λ x. ⊎_elim (λ y. rw (x.0, y.0) (rw (x.1, y.1) at e)) (λ y. rw (x.0, y.0) (rw (x.1, y.1) at e)) (cases j u.cell))
      (cases c u.from)

  none-clash : Clash (slots d) (m * slots d) o fl marks → ((x : ℕ) → x < m * slots d → (get_or o x 0 ≡ none → ⊥) → get_or o x 0 < m) → Coherent d cs (λ c. sign_of (get_or marks c 0)) → ⊥
  none-clash q cells p =
      let k = slots d in
      let x = q.slot in
      let h = q.below in
      q.other (λ some. down (λ c. sign_of (get_or marks c 0)) (λ c b. mark-cases (get_or marks c 0) (w.signs c b)) p (x / k) (get_or o x 0) (get_or fl x 0)
      (record {
        slot = x % k;
        below = row-slot-below x m k h;
        from = row-cell-below x m k h;
        cell = cells x h some;
        to = ap (λ (z : ℕ). get_or o z 0) (row_is x m k h);
        by = ap (λ (z : ℕ). get_or fl z 0) (row_is x m k h);
      }))

-- what the test says, with the number of slots as the code has it
pub tested : (d m : ℕ) (o fl marks : List ℕ) → Weighing d m o fl marks → (0 < d) → (k : ℕ) → k ≡ slots d → (r : Bool) → (r ≡ true → (x : ℕ) → x < m * k → AgreesAt k o fl marks x) → (r ≡ false → Clash k (m * k) o fl marks) → (cs : List (List ℕ)) → length cs ≡ m → Linked d cs o fl → Tested d cs r (λ c. sign_of (get_or marks c 0))
tested d m o fl marks w pos k e r all clash cs many l =
    let links = searching-links d m o fl marks marks w.searching k e in
    subst (λ (z : ℕ). ((x : ℕ) → x < m * z → (get_or o x 0 ≡ none → ⊥) → get_or o x 0 < m) → (r ≡ true → (x : ℕ) → x < m * z → AgreesAt z o fl marks x) → (r ≡ false → Clash z (m * z) o fl marks) → Tested d cs r (λ c. sign_of (get_or marks c 0))) (sym e)
    (λ cells all clash. record { yes = λ q. (pos, up d m o fl marks w cs many l (all q)); no = λ q g p. none-clash d m o fl marks w cs many l (clash q) cells p })
    links.cells all clash

-- ---- over a table of mates
linked_of : (d m : ℕ) (rows o fl : List ℕ) (k : ℕ) → k ≡ slots d → ((x : ℕ) → x < m * k → Across k rows o fl x) → (cs : List (List ℕ)) → length cs ≡ m → MateTable d cs rows → Linked d cs o fl
linked_of d m rows o fl k e a cs many t =
    record {
      mates = rows;
      table = t;
      across = λ x h. subst (λ (z : ℕ). x < m * z → Across z rows o fl x) e (a x) (subst (λ (z : ℕ). x < z * slots d) many h);
    }

module _ (d m : ℕ) (rows keys spare marks : List ℕ) (w : Testing d m rows keys spare marks) (k : ℕ) (e : k ≡ slots d) (o fl : List ℕ) (lo : length o ≡ length keys) (lf : length fl ≡ length spare) (a : (x : ℕ) → x < m * k → Across k rows o fl x) where
  pub weighing : Weighing d m o fl marks
  weighing =
      let f = w.finding in
      record {
        searching =
            record {
              cs = f.cs;
              many = f.many;
              linked = linked_of d m rows o fl k e a f.cs f.many f.mates;
              other_long = omega (arith, f.keys_long);
              flip_long = omega (arith, f.spare_long);
              marks_long = f.counts_long;
              stack_long = f.counts_long;
              few = f.few;
              small = f.small;
            };
        signs = w.signs;
      }

  pub tested-mates : (r : Bool) → ((cs : List (List ℕ)) → length cs ≡ m → Linked d cs o fl → Tested d cs r (λ c. sign_of (get_or marks c 0))) → (cs : List (List ℕ)) → length cs ≡ m → MateTable d cs rows → Tested d cs r (λ c. sign_of (get_or marks c 0))
  tested-mates r f cs many t = f cs many (linked_of d m rows o fl k e a cs many t)

-- dimension 0
pub tested-point : (d : ℕ) (cs : List (List ℕ)) (σ : ℕ → Sign) → d ≡ 0 → Tested d cs false σ
tested-point d cs σ e = record { yes = λ q. let z : ◌≡◌ {A = ℕ} 0 1 = cc in absurd (omega arith); no = λ q g p. omega arith }
