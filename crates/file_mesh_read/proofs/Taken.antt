-- The births of a file, read one after the other. Assumes nothing.
use mathlib.Core.Path.{◌≡◌, refl, sym, ap, subst, ◌∙◌}
use mathlib.Core.List.{List, [], ◌∷◌, ◌++◌}
use Prim.Native.Nat.{ℕ, zero, suc, ◌+◌, ◌*◌, ◌-◌, ◌≤◌, ◌<◌}
use native.Mathlib.Nat.{le_of_eq}
use native.Mathlib.Omega.{arith}
use lib.ListN.{length, take, drop, set, length-append, length-drop}
use lib.Seq.{length-take-le}
use Rattle.refine_pattern.proofs.Written.{Written, written_none, written_same, written-length, written-room, written-part, written-put, written-whole}
use Rattle.file_bytes.specs.Bytes.{said}
use Rattle.file_mesh.specs.Read.{Births, with_birth}
use Rattle.file_mesh_read.specs.Work.{pairs_in, count_in, birth_in, births_in, end_in, Taking}
use Rattle.file_mesh_read.proofs.Listed.{pairs-in-long}

births-long : (many at : ℕ) (bs : List ℕ) → length (births_in many at bs).births ≡ many * 3
unfolding births_in
births-long zero at bs = refl
births-long (suc many) at bs = omega (arith, births-long many (at + (14 + count_in at bs * 6)) bs)

end_after : (many at : ℕ) (bs : List ℕ) → at ≤ end_in many at bs
unfolding end_in
end_after zero at bs = omega arith
end_after (suc many) at bs = omega (arith, end_after many (at + (14 + count_in at bs * 6)) bs)

-- the first k births are read: the next record begins at `at`, its pairs at p
pub record BirthsRead (many from : ℕ) (bs births₀ pairs₀ births pairs : List ℕ) (at p k : ℕ) : Type 0 where
  pub most : k ≤ many
  pub inside : end_in (many - k) at bs ≤ length bs
  pub of_births : Written (births_in many from bs).births births₀ (births_in (many - k) at bs).births (k * 3) births
  pub of_pairs : Written (births_in many from bs).pairs pairs₀ (births_in (many - k) at bs).pairs p pairs

module _ (many from : ℕ) (bs births₀ pairs₀ : List ℕ) (t : Taking many from bs births₀ pairs₀) where
  pub taken_none : BirthsRead many from bs births₀ pairs₀ births₀ pairs₀ from 0 0
  taken_none =
      let e : many ≡ many - 0 = omega arith in
      record {
        most = omega arith;
        inside = subst (λ (x : ℕ). end_in x from bs ≤ length bs) e t.inside;
        of_births = written_same (births_in many from bs).births births₀ (births_in many from bs).births (births_in (many - 0) from bs).births 0 births₀ (ap (λ (x : ℕ). (births_in x from bs).births) e) (written_none (births_in many from bs).births births₀);
        of_pairs = written_same (births_in many from bs).pairs pairs₀ (births_in many from bs).pairs (births_in (many - 0) from bs).pairs 0 pairs₀ (ap (λ (x : ℕ). (births_in x from bs).pairs) e) (written_none (births_in many from bs).pairs pairs₀);
      }

  fit-births : length (births_in many from bs).births ≤ length births₀
  fit-births = omega (arith, births-long many from bs, t.in_births)

  fit-pairs : length (births_in many from bs).pairs ≤ length pairs₀
  fit-pairs = le_of_eq (sym t.in_pairs)

  module _ (births pairs : List ℕ) (at p k : ℕ) (w : BirthsRead many from bs births₀ pairs₀ births pairs at p k) where
    pub same-births : length births ≡ length births₀
    same-births = written-length (births_in many from bs).births births₀ (births_in (many - k) at bs).births (k * 3) births fit-births w.of_births

    pub same-pairs : length pairs ≡ length pairs₀
    same-pairs = written-length (births_in many from bs).pairs pairs₀ (births_in (many - k) at bs).pairs p pairs fit-pairs w.of_pairs

    module _ (h : many ≤ k) where
      none_left : many - k ≡ 0
      none_left = omega arith

      pub done-births : births ≡ (births_in many from bs).births
      unfolding births_in
      done-births =
          written-whole (births_in many from bs).births births₀ (k * 3) births (t.in_births ∙ sym (births-long many from bs))
          (written_same (births_in many from bs).births births₀ (births_in (many - k) at bs).births [] (k * 3) births (ap (λ (x : ℕ). (births_in x at bs).births) none_left) w.of_births)

      pub done-pairs : pairs ≡ (births_in many from bs).pairs
      unfolding births_in
      done-pairs =
          written-whole (births_in many from bs).pairs pairs₀ p pairs t.in_pairs
          (written_same (births_in many from bs).pairs pairs₀ (births_in (many - k) at bs).pairs [] p pairs (ap (λ (x : ℕ). (births_in x at bs).pairs) none_left) w.of_pairs)

    module _ (h : k < many) where
      left : many - k ≡ suc (many - (k + 1))
      left = omega arith

      pub births-room : k * 3 + 3 ≤ length births
      births-room = omega (arith, same-births, t.in_births)

      on-inside : end_in (many - (k + 1)) (at + (14 + count_in at bs * 6)) bs ≤ length bs
      unfolding end_in
      on-inside = subst (λ (x : ℕ). end_in x at bs ≤ length bs) left w.inside

      head-inside : at + (14 + count_in at bs * 6) ≤ length bs
      head-inside = omega (arith, on-inside, end_after (many - (k + 1)) (at + (14 + count_in at bs * 6)) bs)

      pub fields-inside : at + 14 ≤ length bs
      fields-inside = omega (arith, head-inside)

      on : births_in (many - k) at bs ≡ with_birth (birth_in at bs) (births_in (many - (k + 1)) (at + (14 + count_in at bs * 6)) bs)
      unfolding births_in
      on = ap (λ (x : ℕ). births_in x at bs) left

      module _ (c : ℕ) (ec : c ≡ count_in at bs) where
        times : c * 6 ≡ count_in at bs * 6
        times = ap (λ (x : ℕ). x * 6) ec

        pub pairs-inside : at + 14 + c * 6 ≤ length bs
        pairs-inside = omega (arith, head-inside, times)

        place : at + (14 + count_in at bs * 6) ≡ at + 14 + c * 6
        place = omega (arith, times)

        rest : Births
        rest = births_in (many - (k + 1)) (at + 14 + c * 6) bs

        on-pairs : (births_in (many - k) at bs).pairs ≡ pairs_in c (at + 14) bs ++ rest.pairs
        unfolding rest
        on-pairs =
            ap (λ (l : Births). l.pairs) on ∙ ap (λ (x : ℕ). pairs_in x (at + 14) bs ++ (births_in (many - (k + 1)) (at + (14 + count_in at bs * 6)) bs).pairs) (sym ec)
            ∙ ap (λ (x : ℕ). pairs_in c (at + 14) bs ++ (births_in (many - (k + 1)) x bs).pairs) place

        pub pairs-room : p + c * 2 ≤ length pairs
        pairs-room =
            omega (
              arith,
              written-room (births_in many from bs).pairs pairs₀ (births_in (many - k) at bs).pairs p pairs fit-pairs w.of_pairs,
              ap length on-pairs,
              length-append (pairs_in c (at + 14) bs) rest.pairs,
              pairs-in-long c (at + 14) bs,
            )

        pub own-long : length (take (p + c * 2 - p) (drop p pairs)) ≡ c * 2
        own-long = length-take-le (p + c * 2 - p) (drop p pairs) (omega (arith, length-drop p pairs, pairs-room)) ∙ omega arith

        module _ (n r : ℕ) (en : n ≡ said (take 4 (drop (at + 6) bs))) (er : r ≡ said (take 2 (drop (at + 10) bs))) (ys : List ℕ) (ey : ys ≡ pairs_in c (at + 14) bs) where
          on-births : (births_in (many - k) at bs).births ≡ n ∷ (r ∷ (c ∷ rest.births))
          unfolding rest
          on-births =
              ap (λ (l : Births). l.births) on ∙ ap (λ (x : ℕ). said (take 4 (drop (at + 6) bs)) ∷ (said (take 2 (drop (at + 10) bs)) ∷ (count_in at bs ∷ (births_in (many - (k + 1)) x bs).births))) place
              ∙ rw (en, er, ec)

          put-births : Written (births_in many from bs).births births₀ rest.births ((k + 1) * 3) (set (set (set births (k * 3) n) (k * 3 + 1) r) (k * 3 + 2) c)
          put-births =
              let all = (births_in many from bs).births in
              let a = written-put all births₀ (births_in (many - k) at bs).births (k * 3) births fit-births w.of_births n (r ∷ (c ∷ rest.births)) on-births in
              let b = written-put all births₀ (r ∷ (c ∷ rest.births)) (k * 3 + 1) (set births (k * 3) n) fit-births a r (c ∷ rest.births) refl in
              let b2 = subst (λ (x : ℕ). Written all births₀ (c ∷ rest.births) x (set (set births (k * 3) n) (k * 3 + 1) r)) {x = k * 3 + 1 + 1} {y = k * 3 + 2} (omega arith) b in
              let d = written-put all births₀ (c ∷ rest.births) (k * 3 + 2) (set (set births (k * 3) n) (k * 3 + 1) r) fit-births b2 c rest.births refl in
              subst (λ (x : ℕ). Written all births₀ rest.births x (set (set (set births (k * 3) n) (k * 3 + 1) r) (k * 3 + 2) c)) {x = k * 3 + 2 + 1} {y = (k + 1) * 3} (omega arith) d

          put-pairs : Written (births_in many from bs).pairs pairs₀ rest.pairs (p + c * 2) (take p pairs ++ (ys ++ drop (p + c * 2 - p) (drop p pairs)))
          put-pairs =
              let m : p + c * 2 - p ≡ c * 2 = omega arith in
              subst (λ (x : ℕ). Written (births_in many from bs).pairs pairs₀ rest.pairs x (take p pairs ++ (ys ++ drop (p + c * 2 - p) (drop p pairs)))) {x = p + (p + c * 2 - p)} {y = p + c * 2} (omega arith)
              (written-part (births_in many from bs).pairs pairs₀ (births_in (many - k) at bs).pairs p pairs fit-pairs w.of_pairs (pairs_in c (at + 14) bs) rest.pairs on-pairs (p + c * 2 - p) ys ey (m ∙ sym (pairs-in-long c (at + 14) bs)))

          pub taken_more : BirthsRead many from bs births₀ pairs₀ (set (set (set births (k * 3) n) (k * 3 + 1) r) (k * 3 + 2) c) (take p pairs ++ (ys ++ drop (p + c * 2 - p) (drop p pairs))) (at + 14 + c * 6) (p + c * 2) (k + 1)
          unfolding rest
          taken_more =
              record {
                most = omega arith;
                inside = subst (λ (x : ℕ). end_in (many - (k + 1)) x bs ≤ length bs) place on-inside;
                of_births = put-births;
                of_pairs = put-pairs;
              }
