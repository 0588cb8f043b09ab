-- What a call of `drop_cells` hands out: where it is not refused, the mesh that it was without the cells that go; and where nothing goes, the mesh itself. Assumes nothing.
use Rattle.complex_dropped.specs.Says.{Dropping, kept_of}
use Rattle.refusal.specs.declared.Refusal.{Refusal}
use Rattle.std.specs.Prelude.{Err, Ok}
use mathlib.Core.List.{List, []}
use mathlib.Core.Path.{◌≡◌, refl, sym, ap, ◌∙◌, subst}
use Prim.Native.Nat.{ℕ, suc, ◌+◌, ◌*◌, ◌/◌, ◌≤◌, ◌<◌}
use native.Mathlib.Nat.{zero-mul}
use native.Mathlib.Omega.{arith}
use lib.ListN.{length, take}
use lib.Seq.{take_at}
use Rattle.sorting.proofs.Sorts.{length-upto}
use Rattle.refusal.specs.declared.Room.{Room}
use Rattle.refusal.specs.Lent.{lengths, onto, Roomy}
use Rattle.refusal.specs.Call.{Comes, refused, cramped, ended}
use Rattle.lists.specs.Words.{largest_of}
use Rattle.lists.proofs.Rows.{cut-length}
use Rattle.complex.specs.Check.{Passed, answer_of}
use Rattle.complex.specs.Room.{need_of}
use Rattle.complex.proofs.Fine.{fine-passed}
use Rattle.complex.specs.Cells.{cells_of}
use Rattle.complex.specs.Facets.{Crowded}
use Rattle.orientation_laws.proofs.Coherent.{coherent-yes}
use Rattle.complex_dropped.specs.declared.Dropped.{Dropped}
use Rattle.complex_dropped.specs.Kept.{staying, kept_words, old_numbers, names_missing}
use Rattle.complex_dropped.specs.Promise.{Lists, nothing, kept_lists, Fits, Present, Ends, crowded, missing, emptied, short, kept_all, DropCells}
use Rattle.complex_dropped.specs.KeptMesh.{KeptMesh, Unchanged}
use Rattle.complex_dropped.proofs.Kept.{kept-long, kept_fine, kept-cells, mates-back, never-seven, still-coherent, old-again, old-rising, dense}
use Rattle.complex_dropped.proofs.Nothing.{stay_all, drop-nothing, drop-nothing-old}
use Rattle.complex_dropped.proofs.Determined.{ends-one}

-- what a call that handed out n words tells
record Told (d : ℕ) (ws gone : List ℕ) (n v : ℕ) (l : Lists) : Type 0 where
  fine : answer_of d ws ≡ Ok tt
  free : Crowded d (cells_of d ws) → ⊥
  some : length (staying d ws gone) ≡ 0 → ⊥
  words-many : n ≡ length (staying d ws gone)
  vertices-many : v ≡ length (old_numbers d ws gone)
  is : l ≡ kept_lists d ws gone

other : {why : Refusal} {n v : ℕ} → ◌≡◌ {A = Dropping} (Err why) (kept_of n v) → ⊥
other p = cc

module _ (d : ℕ) (ws gone : List ℕ) (k o n v : ℕ) where
  ends-told : (r : Dropping) (l : Lists) → answer_of d ws ≡ Ok tt → Ends d ws gone k o r l → r ≡ kept_of n v → Told d ws gone n v l
  ends-told r l f (crowded x) q = absurd (other q)
  ends-told r l f (missing x e) q = absurd (other q)
  ends-told r l f (emptied x e) q = absurd (other q)
  ends-told r l f (short x s e) q = absurd (other q)
  ends-told r l f (kept_all x s e) q =
      let same : ◌≡◌ {A = Dropped} (record { words = n; vertices = v }) (record { words = length (staying d ws gone); vertices = length (old_numbers d ws gone) }) = cc in
      record { fine = f; free = x.uncrowded; some = s; words-many = ap (λ (t : Dropped). t.words) same; vertices-many = ap (λ (t : Dropped). t.vertices) same; is = refl }

  comes-told : (need have : Room) (r : Dropping) (l : Lists) (u : Room) → Comes Err nothing (answer_of d ws) need have (Ends d ws gone k o) r l u → r ≡ kept_of n v → Told d ws gone n v l
  comes-told need have r l u (refused e) q = absurd (other q)
  comes-told need have r l u (cramped e f) q = absurd (other q)
  comes-told need have r l u (ended e f t) q = ends-told r l e t q

-- the words and the old numbers as they are defined
kept-mesh-of : (d : ℕ) (ws gone : List ℕ) → Passed d ws → (Crowded d (cells_of d ws) → ⊥) → (length (staying d ws gone) ≡ 0 → ⊥) → KeptMesh d ws gone (kept_words d ws gone) (old_numbers d ws gone)
kept-mesh-of d ws gone p free some = record {
  words = old-again d ws gone p;
  dense = dense d ws gone p some;
  rising = old-rising d ws gone p;
  cells = kept-cells d ws gone p;
  facets = mates-back d ws gone p;
  uncrowded = never-seven d ws gone p free;
  fine = kept_fine d ws gone p some;
  coherent = still-coherent d ws gone p;
  agreed = λ σ co. coherent-yes d (kept_words d ws gone) (kept_fine d ws gone p some) (never-seven d ws gone p free) _ (still-coherent d ws gone p σ co);
}

module _ (d : ℕ) (ws gone : List ℕ) (n v : ℕ) (kept kept' old old' keys keys' rows rows' spare spare' counts counts' : List ℕ)
    (a : DropCells d ws gone (kept_of n v) kept kept' old old' keys keys' rows rows' spare spare' counts counts') where
  told : Told d ws gone n v a.handed
  told = comes-told d ws gone (length kept) (length old) n v _ (lengths keys rows spare counts) (kept_of n v) a.handed a.used a.comes refl

  pub out_words : take (n * (d + 1)) kept' ≡ kept_words d ws gone
  out_words =
      ap (take (n * (d + 1))) (a.in_kept ∙ ap (λ (l : Lists). onto l.words kept) told.is)
      ∙ take_at (kept_words d ws gone) _ (n * (d + 1)) (kept-long d ws gone (fine-passed d ws told.fine) ∙ ap (λ (z : ℕ). z * (d + 1)) (sym told.words-many))

  pub out-old : take v old' ≡ old_numbers d ws gone
  out-old = ap (take v) (a.in_old ∙ ap (λ (l : Lists). onto l.old old) told.is) ∙ take_at (old_numbers d ws gone) _ v (sym told.vertices-many)

  -- what stands in the caller's lists is the mesh without the cells that go
  pub kept-mesh : KeptMesh d ws gone (take (n * (d + 1)) kept') (take v old')
  kept-mesh =
      subst (λ (l : List ℕ). KeptMesh d ws gone l (take v old')) (sym out_words)
      (subst (λ (l : List ℕ). KeptMesh d ws gone (kept_words d ws gone) l) (sym out-old)
      (kept-mesh-of d ws gone (fine-passed d ws told.fine) told.free told.some))

-- ---- removing nothing, for a list that passes all checks, where there is room
module _ (d : ℕ) (ws : List ℕ) (fine : answer_of d ws ≡ Ok tt) (free : Crowded d (cells_of d ws) → ⊥) (kept old : List ℕ) (kl : length ws ≤ length kept) (ol : largest_of ws < length old) where
  passed : Passed d ws
  passed = fine-passed d ws fine

  here : Present d ws []
  unfolding names_missing
  here = record { uncrowded = free; there = refl }

  many : length (staying d ws []) ≡ length ws / (d + 1)
  many = ap length (stay_all d ws passed) ∙ cut-length (d + 1) (length ws / (d + 1)) ws

  some : length (staying d ws []) ≡ 0 → ⊥
  some e =
      passed.some_words
      (sym (ap length (drop-nothing d ws passed)) ∙ kept-long d ws [] passed ∙ ap (λ (z : ℕ). z * (d + 1)) e ∙ zero-mul (d + 1))

  fits : Fits (kept_lists d ws []) (length kept) (length old)
  fits = record {
    in_kept = omega (arith, ap length (drop-nothing d ws passed));
    in_old = omega (arith, ap length (drop-nothing-old d ws passed), length-upto (suc (largest_of ws)));
  }

  not-refused : (why : Refusal) → answer_of d ws ≡ Err why → ⊥
  not-refused why e = cc

  all-kept : (have : Room) (r : Dropping) (l : Lists) (u : Room) → Roomy (need_of d (length ws)) have
      → Comes Err nothing (answer_of d ws) (need_of d (length ws)) have (Ends d ws [] (length kept) (length old)) r l u
      → (r ≡ kept_of (length (staying d ws [])) (length (old_numbers d ws []))) × (l ≡ kept_lists d ws [])
  all-kept have r l u room (refused {why} e) = absurd (not-refused why e)
  all-kept have r l u room (cramped e f) = absurd (f room)
  all-kept have r l u room (ended e f t) = ends-one d ws [] (length kept) (length old) r _ l _ t (kept_all here some fits)

  pub nothing-changes : (r : Dropping) (kept' old' keys keys' rows rows' spare spare' counts counts' : List ℕ) → Roomy (need_of d (length ws)) (lengths keys rows spare counts)
      → DropCells d ws [] r kept kept' old old' keys keys' rows rows' spare spare' counts counts' → Unchanged d ws r kept kept' old old'
  nothing-changes r kept' old' keys keys' rows rows' spare spare' counts counts' room a =
      let w = all-kept (lengths keys rows spare counts) r a.handed a.used room a.comes in
      let e : length (old_numbers d ws []) ≡ suc (largest_of ws) = ap length (drop-nothing-old d ws passed) ∙ length-upto (suc (largest_of ws)) in
      record {
        says = w.0 ∙ ap (λ (z : ℕ). kept_of z (length (old_numbers d ws []))) many ∙ ap (λ (z : ℕ). kept_of (length ws / (d + 1)) z) e;
        words = a.in_kept ∙ ap (λ (l : Lists). onto l.words kept) w.1 ∙ ap (λ (l : List ℕ). onto l kept) (drop-nothing d ws passed);
        numbers = a.in_old ∙ ap (λ (l : Lists). onto l.old old) w.1 ∙ ap (λ (l : List ℕ). onto l old) (drop-nothing-old d ws passed);
      }
