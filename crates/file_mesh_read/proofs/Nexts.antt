-- The record after the words: a birth, or the end of the file. Assumes nothing.
use Rattle.refusal.specs.declared.Refusal.TheVariants.{BadFile}
use Rattle.refusal.specs.declared.Refusal.{Refusal}
use Rattle.std.specs.Prelude.{Ok, Err, Some}
use mathlib.Core.Path.{◌≡◌, ap}
use mathlib.Core.Bool.{true, false}
use mathlib.Core.List.{List}
use Prim.Native.Nat.{ℕ, ◌+◌, ◌-◌, ◌%◌, ◌≤◌, ◌<◌}
use native.Mathlib.Omega.{arith}
use lib.ListN.{length, drop, drop_of_length-le}
use lib.Seq.{drop-cons}
use borrow.Author.Tests.{le-leb, lt-leb, eq-eqb, ne_eqb}
use Rattle.file_mesh.specs.declared.Run.{Run}
use Rattle.file_mesh.specs.Rules.{run_ends}
use Rattle.file_mesh.specs.Read.{Part, no, got, and_then, asked, opening_from, Birth, birth_from, nothing}
use Rattle.file_mesh_read.specs.declared.Born.{Born}
use Rattle.file_mesh_read.specs.Work.{born_of, one, end, next_from, next_of}
use Rattle.file_mesh_read.proofs.Parts.{OpenedAt}

pub born-refused : (p : Part Birth) (why : Refusal) → Err why ≡ born_of p → Err why ≡ next_of (and_then p (λ b s. got (one b) s))
unfolding and_then
born-refused (no other) why e = cc
born-refused (got b s) why e = cc

pub next-born : (p : Part Birth) (b : Born) → Ok b ≡ born_of p → Ok (Some b) ≡ next_of (and_then p (λ x s. got (one x) s))
unfolding and_then
next-born (no why) b e = cc
next-born (got x s) b e = cc

some_left : (bs : List ℕ) (at : ℕ) → at < length bs → nothing (drop at bs) ≡ false
unfolding nothing
some_left bs at h = ap nothing (drop-cons bs at 0 h)

none_left : (bs : List ℕ) (at : ℕ) → length bs ≤ at → nothing (drop at bs) ≡ true
unfolding nothing
none_left bs at h = ap nothing (drop_of_length-le bs {i = at} h)

module _ (vertices : ℕ) (run : Run) (bs : List ℕ) (at : ℕ) where
  pub next-no : (why : Refusal) → opening_from (drop at bs) ≡ no why → next_from vertices run (drop at bs) ≡ no why
  unfolding next_from and_then
  next-no why e = rw e

  module _ (l k : ℕ) (o : OpenedAt bs at l k) where
    pub next-short : k ≡ 3 → l < 10 → next_from vertices run (drop at bs) ≡ no BadFile
    unfolding next_from and_then asked
    next-short e h = rw (o.is, ne_eqb k 4 (λ q. omega arith), eq-eqb k 3 e, lt-leb 10 l h)

    pub next-ragged : k ≡ 3 → 10 ≤ l → ((l - 10) % 6 ≡ 0 → ⊥) → next_from vertices run (drop at bs) ≡ no BadFile
    unfolding next_from and_then asked
    next-ragged e h f = rw (o.is, ne_eqb k 4 (λ q. omega arith), eq-eqb k 3 e, le-leb 10 l h, ne_eqb ((l - 10) % 6) 0 f)

    pub next-birth : k ≡ 3 → 10 ≤ l → (l - 10) % 6 ≡ 0 → next_from vertices run (drop at bs) ≡ and_then (birth_from vertices run l (drop (at + 6) bs)) (λ b s. got (one b) s)
    unfolding next_from and_then asked
    next-birth e h f = rw (o.is, ne_eqb k 4 (λ q. omega arith), eq-eqb k 3 e, le-leb 10 l h, eq-eqb ((l - 10) % 6) 0 f)

    pub next-kind : (k ≡ 3 → ⊥) → (k ≡ 4 → ⊥) → next_from vertices run (drop at bs) ≡ no BadFile
    unfolding next_from and_then asked
    next-kind e f = rw (o.is, ne_eqb k 4 f, ne_eqb k 3 e)

    module _ (e : k ≡ 4) where
      pub next-len : (l ≡ 2 → ⊥) → next_from vertices run (drop at bs) ≡ no BadFile
      unfolding next_from and_then asked
      next-len f = rw (o.is, eq-eqb k 4 e, ne_eqb l 2 f)

      pub next-run : l ≡ 2 → run_ends vertices run ≡ false → next_from vertices run (drop at bs) ≡ no BadFile
      unfolding next_from and_then asked
      next-run f g = rw (o.is, eq-eqb k 4 e, eq-eqb l 2 f, g)

      pub next_more : l ≡ 2 → run_ends vertices run ≡ true → (length bs ≡ at + 6 → ⊥) → next_from vertices run (drop at bs) ≡ no BadFile
      unfolding next_from and_then asked
      next_more f g h = rw (o.is, eq-eqb k 4 e, eq-eqb l 2 f, g, some_left bs (at + 6) (omega (arith, o.inside, h)))

      pub next-end : l ≡ 2 → run_ends vertices run ≡ true → length bs ≡ at + 6 → next_from vertices run (drop at bs) ≡ got end (drop (at + 6) bs)
      unfolding next_from and_then asked
      next-end f g h = rw (o.is, eq-eqb k 4 e, eq-eqb l 2 f, g, none_left bs (at + 6) (omega arith))
