-- An order's words agree on every facet of two cells exactly if the last number of each record is 1. Assumes nothing.
use mathlib.Core.Bool.{Bool, true, false}
use mathlib.Core.List.{List, [], ◌∷◌, ◌++◌, append-nil}
use mathlib.Core.Path.{◌≡◌, refl, sym, ap, ◌∙◌, subst}
use Prim.Native.Nat.{ℕ, zero, suc, ◌+◌, ◌-◌, ◌*◌, ◌/◌, ◌%◌, ◌<◌}
use native.Mathlib.Nat.{suc-mul}
use native.Mathlib.Decide.{dec_lt}
use native.Mathlib.Omega.{arith}
use lib.ListN.{length, get_or, drop, length-append, get_or-append}
use lib.Seq.{get_or-append_seam, get_or-append-add}
use Rattle.lists.specs.Words.{same_word, without}
use Rattle.lists.proofs.Words.{same_word_lem, word-true}
use Rattle.complex.specs.Facets.{cell_at, facet_at, FacetOf, Mates, Crowded, Cells, slots}
use Rattle.complex.specs.Skeleton.{facet_row_of, facets_of, only_if, numbers, rows_with}
use Rattle.complex_cells.proofs.Words.{Word, In, at_in}
use Rattle.complex_mates.proofs.Places.{facet-row}
use Rattle.complex_facets.specs.Records.{signed_of, kept_of, one_if, agree_of, record_of, each_record, records_of}
use Rattle.complex_facets.proofs.Numbers.{numbers-two}
use Rattle.skeleton.proofs.Laws.{facets-has, rows-mate}
use Rattle.ordering_words.specs.Order.{AgreeOnFacets}
use Rattle.ordering_records.proofs.Tags.{record-long}

-- ---- the last number of a record
last_one : (d : ℕ) (cs ks : List Word) (f : Word) → get_or (record_of d cs ks f) 4 0 ≡ agree_of d cs ks (rows_with d cs f)
last_one d cs ks f = go (rows_with d cs f)
  where
    go : (l : List ℕ) → get_or (signed_of d l ++ (signed_of d (drop 1 l) ++ (agree_of d cs ks l ∷ []))) 4 0 ≡ agree_of d cs ks l
    go [] = refl
    go (x ∷ []) = refl
    go (x ∷ y ∷ l) = refl

each_last : (d : ℕ) (cs ks fs : List Word) (i : ℕ) → i < length fs → get_or (each_record d cs ks fs) (i * 5 + 4) 0 ≡ agree_of d cs ks (rows_with d cs (get_or fs i []))
unfolding each_record
each_last d cs ks [] i h = absurd (omega arith)
each_last d cs ks (f ∷ fs) zero h = get_or-append (record_of d cs ks f) (each_record d cs ks fs) 0 4 (omega (arith, record-long d cs ks f)) ∙ last_one d cs ks f
each_last d cs ks (f ∷ fs) (suc i) h =
    let e : suc i * 5 + 4 ≡ length (record_of d cs ks f) + (i * 5 + 4) = omega (arith, record-long d cs ks f, suc-mul i 5) in
    ap (λ (n : ℕ). get_or (record_of d cs ks f ++ each_record d cs ks fs) n 0) e ∙ get_or-append-add (record_of d cs ks f) (each_record d cs ks fs) (i * 5 + 4) 0
    ∙ each_last d cs ks fs i (omega arith)

-- ---- the numbers that pass a test: they pass it, and the first two rise
module _ (p : ℕ → Bool) where
  numbers-pass : (n j : ℕ) → j < length (numbers p n) → (get_or (numbers p n) j 0 < n) × (p (get_or (numbers p n) j 0) ≡ true)
  unfolding numbers
  numbers-pass zero j h = absurd (omega arith)
  numbers-pass (suc n) j h = go (p n) refl (numbers-pass n j) h
    where
      go : (t : Bool) → p n ≡ t → (j < length (numbers p n) → (get_or (numbers p n) j 0 < n) × (p (get_or (numbers p n) j 0) ≡ true)) → j < length (numbers p n ++ only_if t n) →
          (get_or (numbers p n ++ only_if t n) j 0 < suc n) × (p (get_or (numbers p n ++ only_if t n) j 0) ≡ true)
      go false q b k =
          let e = append-nil (numbers p n) in
          let l : j < length (numbers p n) = rw e at k in
          rw e (omega (arith, (b l).0), (b l).1)
      go true q b k =
          elim (dec_lt j (length (numbers p n))) [
            | yes l ↦ rw (get_or-append (numbers p n) (n ∷ []) 0 j l) (omega (arith, (b l).0), (b l).1)
            | no l ↦
                let e : length (numbers p n) ≡ j = omega (arith, length-append (numbers p n) (n ∷ [])) in
                subst (λ (i : ℕ). (get_or (numbers p n ++ (n ∷ [])) i 0 < suc n) × (p (get_or (numbers p n ++ (n ∷ [])) i 0) ≡ true)) e (rw (get_or-append_seam (numbers p n) n [] 0) (omega arith, q))
          ]

  first_two : (n : ℕ) → 1 < length (numbers p n) → get_or (numbers p n) 0 0 < get_or (numbers p n) 1 0
  unfolding numbers
  first_two zero h = absurd (omega arith)
  first_two (suc n) h = go (p n) (first_two n) (numbers-pass n 0) h
    where
      go : (t : Bool) → (1 < length (numbers p n) → get_or (numbers p n) 0 0 < get_or (numbers p n) 1 0) → (0 < length (numbers p n) → (get_or (numbers p n) 0 0 < n) × (p (get_or (numbers p n) 0 0) ≡ true)) →
          1 < length (numbers p n ++ only_if t n) → get_or (numbers p n ++ only_if t n) 0 0 < get_or (numbers p n ++ only_if t n) 1 0
      go false b a k =
          let e = append-nil (numbers p n) in
          let l : 1 < length (numbers p n) = rw e at k in
          rw e (b l)
      go true b a k =
          elim (dec_lt 1 (length (numbers p n))) [
            | yes l ↦ omega (arith, get_or-append (numbers p n) (n ∷ []) 0 1 l, get_or-append (numbers p n) (n ∷ []) 0 0 (omega arith), b l)
            | no l ↦
                let e : length (numbers p n) ≡ 1 = omega (arith, length-append (numbers p n) (n ∷ [])) in
                let u : get_or (numbers p n ++ (n ∷ [])) 1 0 ≡ n = subst (λ (i : ℕ). get_or (numbers p n ++ (n ∷ [])) i 0 ≡ n) e (get_or-append_seam (numbers p n) n [] 0) in
                omega (arith, u, get_or-append (numbers p n) (n ∷ []) 0 0 (omega arith), (a (omega arith)).0)
          ]

one-true : (b : Bool) → one_if b ≡ 1 → b ≡ true
one-true true e = refl
one-true false e = absurd (omega arith)

module _ (d : ℕ) (cs ks : List Word) (good : Cells d cs) where
  -- three rows of one facet
  crowd : (x y z : ℕ) → x < length cs * slots d → y < length cs * slots d → z < length cs * slots d → (x ≡ y → ⊥) → (x ≡ z → ⊥) → (y ≡ z → ⊥) → facet_row_of d cs x ≡ facet_row_of d cs y → facet_row_of d cs x ≡ facet_row_of d cs z → Crowded d cs
  crowd x y z hx hy hz xy xz yz e g =
      record {
        cell = x / slots d;
        first = y / slots d;
        second = z / slots d;
        at = d - x % slots d;
        at_first = d - y % slots d;
        at_second = d - z % slots d;
        one = rows-mate d cs good x y hx hy xy e;
        other = rows-mate d cs good x z hx hz xz g;
        apart = (rows-mate d cs good y z hy hz yz (sym e ∙ g)).apart;
      }

  -- the rows of a facet of two cells
  pair-rows : (Crowded d cs → ⊥) → (x y : ℕ) → x < y → y < length cs * slots d → facet_row_of d cs x ≡ facet_row_of d cs y → rows_with d cs (facet_row_of d cs x) ≡ x ∷ y ∷ []
  pair-rows free x y l h e =
      numbers-two (λ z. same_word (facet_row_of d cs z) (facet_row_of d cs x)) (length cs * slots d) x y l h (word-true (facet_row_of d cs x) (facet_row_of d cs x) refl) (word-true (facet_row_of d cs y) (facet_row_of d cs x) (sym e))
      (λ z k zx zy. fails z k zx zy (same_word (facet_row_of d cs z) (facet_row_of d cs x)) refl)
    where
      fails : (z : ℕ) → z < length cs * slots d → (z ≡ x → ⊥) → (z ≡ y → ⊥) → (t : Bool) → same_word (facet_row_of d cs z) (facet_row_of d cs x) ≡ t → same_word (facet_row_of d cs z) (facet_row_of d cs x) ≡ false
      fails z k zx zy true q =
          absurd (free (crowd x y z (omega arith) h k (λ s. omega arith) (λ s. zx (sym s)) (λ s. zy (sym s)) e (sym (same_word_lem (facet_row_of d cs z) (facet_row_of d cs x) q))))
      fails z k zx zy false q = q

  kept_pair : (Crowded d cs → ⊥) → ((f : Word) → In f (facets_of d cs) → agree_of d cs ks (rows_with d cs f) ≡ 1) → (x y : ℕ) → x < y → y < length cs * slots d → facet_row_of d cs x ≡ facet_row_of d cs y → kept_of d cs ks x ≡ kept_of d cs ks y
  kept_pair free all x y l h e =
      let m = rows-mate d cs good x y (omega arith) h (λ s. omega arith) e in
      same_word_lem (kept_of d cs ks x) (kept_of d cs ks y)
      (one-true (same_word (kept_of d cs ks x) (kept_of d cs ks y))
      (sym (ap (agree_of d cs ks) (pair-rows free x y l h e)) ∙ all (facet_row_of d cs x) (facets-has d cs good (x / slots d) (d - x % slots d) m.this)))

  row_kept : (c i : ℕ) → FacetOf d cs c i → kept_of d cs ks (c * slots d + (d - i)) ≡ without (get_or (cell_at cs c) i 0) (cell_at ks c)
  row_kept c i u =
      let r = facet-row d cs c i u in
      ap (λ (z : ℕ). without (get_or (cell_at cs z) (d - (c * slots d + (d - i)) % slots d) 0) (cell_at ks z)) r.1 ∙ ap (λ (z : ℕ). without (get_or (cell_at cs c) z 0) (cell_at ks c)) r.2

  row-facet : (c i : ℕ) → FacetOf d cs c i → facet_row_of d cs (c * slots d + (d - i)) ≡ facet_at (cell_at cs c) i
  row-facet c i u =
      let r = facet-row d cs c i u in
      ap (λ (z : ℕ). facet_at (cell_at cs z) (d - (c * slots d + (d - i)) % slots d)) r.1 ∙ ap (facet_at (cell_at cs c)) r.2

  facets-agree : (Crowded d cs → ⊥) → ((f : Word) → In f (facets_of d cs) → agree_of d cs ks (rows_with d cs f) ≡ 1) → (c i c' i' : ℕ) → Mates d cs c i c' i' → without (get_or (cell_at cs c) i 0) (cell_at ks c) ≡ without (get_or (cell_at cs c') i' 0) (cell_at ks c')
  facets-agree free all c i c' i' m =
      let x = c * slots d + (d - i) in
      let y = c' * slots d + (d - i') in
      let hx = facet-row d cs c i m.this in
      let hy = facet-row d cs c' i' m.that in
      let e : facet_row_of d cs (c * slots d + (d - i)) ≡ facet_row_of d cs (c' * slots d + (d - i')) = row-facet c i m.this ∙ m.one ∙ sym (row-facet c' i' m.that) in
      let apart : c * slots d + (d - i) ≡ c' * slots d + (d - i') → ⊥ = λ s. m.apart (sym hx.1 ∙ ap (λ (z : ℕ). z / slots d) s ∙ hy.1) in
      sym (row_kept c i m.this)
      ∙ (elim (dec_lt (c * slots d + (d - i)) (c' * slots d + (d - i'))) [
        | yes l ↦ kept_pair free all (c * slots d + (d - i)) (c' * slots d + (d - i')) l hy.0 e
        | no l ↦ sym (kept_pair free all (c' * slots d + (d - i')) (c * slots d + (d - i)) (omega (arith, apart)) hx.0 (sym e))
      ])
      ∙ row_kept c' i' m.that

  agree-facet : AgreeOnFacets d cs ks → (f : Word) → agree_of d cs ks (rows_with d cs f) ≡ 1
  agree-facet a f =
      go (rows_with d cs f) (numbers-pass (λ x. same_word (facet_row_of d cs x) f) (length cs * slots d) 0) (numbers-pass (λ x. same_word (facet_row_of d cs x) f) (length cs * slots d) 1)
      (first_two (λ x. same_word (facet_row_of d cs x) f) (length cs * slots d))
    where
      go : (l : List ℕ) → (0 < length l → (get_or l 0 0 < length cs * slots d) × (same_word (facet_row_of d cs (get_or l 0 0)) f ≡ true)) → (1 < length l → (get_or l 1 0 < length cs * slots d) × (same_word (facet_row_of d cs (get_or l 1 0)) f ≡ true)) →
          (1 < length l → get_or l 0 0 < get_or l 1 0) → agree_of d cs ks l ≡ 1
      go [] p q r = refl
      go (x ∷ []) p q r = refl
      go (x ∷ y ∷ l) p q r =
          let u = p (omega arith) in
          let v = q (omega arith) in
          let s : x < y = r (omega arith) in
          ap one_if
          (word-true (kept_of d cs ks x) (kept_of d cs ks y)
          (a.one (x / slots d) (d - x % slots d) (y / slots d) (d - y % slots d)
          (rows-mate d cs good x y u.0 v.0 (λ t. omega arith) (same_word_lem (facet_row_of d cs x) f u.1 ∙ sym (same_word_lem (facet_row_of d cs y) f v.1)))))

  -- THE LAST NUMBER OF EACH RECORD IS 1 EXACTLY IF THE WORDS AGREE ON EVERY FACET
  pub agree-on-all : (Crowded d cs → ⊥) → ((i : ℕ) → i < length (facets_of d cs) → get_or (records_of d cs ks) (i * 5 + 4) 0 ≡ 1) → AgreeOnFacets d cs ks
  agree-on-all free all =
      record {
        one =
            facets-agree free
            (λ f m.
            let r = at_in f (facets_of d cs) m in
            ap (λ (w : Word). agree_of d cs ks (rows_with d cs w)) (sym r.2) ∙ sym (each_last d cs ks (facets_of d cs) r.0 r.1) ∙ all r.0 r.1);
      }

  pub all-agree-on : AgreeOnFacets d cs ks → (i : ℕ) → i < length (facets_of d cs) → get_or (records_of d cs ks) (i * 5 + 4) 0 ≡ 1
  all-agree-on a i h = each_last d cs ks (facets_of d cs) i h ∙ agree-facet a (get_or (facets_of d cs) i [])
