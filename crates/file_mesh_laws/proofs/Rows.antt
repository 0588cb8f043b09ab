-- The births in the lists that a refinement hands out. Assumes nothing.
use mathlib.Core.Path.{◌≡◌, refl, sym, ap, subst, ◌∙◌}
use mathlib.Core.List.Memᴰ
use mathlib.Core.List.{List, [], ◌∷◌, ◌++◌, map, Memᴰ}
use Prim.Native.Nat.{ℕ, zero, suc, ◌-◌, ◌≤◌}
use native.Mathlib.Omega.{arith}
use lib.ListN.{length, get_or, take, drop}
use lib.Seq.{take_at, drop_at}
use Rattle.lists.specs.Words.{none}
use Rattle.lists.specs.Tables.{tab}
use Rattle.lists.proofs.Tables.{length-tab}
use Rattle.refine_lattice.specs.Complex.{weigh}
use Rattle.refine_lattice.specs.Pattern.{pattern_of}
use Rattle.refine_lattice.specs.Refine.{visits, positives, births, vertices, In}
use Rattle.refine_lattice.proofs.Enumerate.{of-gather}
use Rattle.refine_lattice.proofs.Pattern.{visits-pattern}
use Rattle.refine_births.specs.Support.{supporters, shares, padded}
use Rattle.refine_births.specs.Promise.{birth_vertices_of, birth_weights_of}
use Rattle.refine_births.proofs.Points.{positives-most}
use Rattle.refine_results.specs.Results.{results_of}
use Rattle.file_mesh.specs.Mesh.{Mesh}
use Rattle.file_mesh_laws.specs.Births.{numbered, beside, pairs, refined_mesh}
use Rattle.file_mesh_laws.specs.Handed.{named, birth_rows, mesh_from}
use Rattle.file_mesh_laws.proofs.Between.{births-all}

-- ---- one row

named_none : (size : ℕ) → named (padded size none []) (padded size 0 []) ≡ []
unfolding named
named_none zero = refl
named_none (suc size) = named_none size

named-row : (size v : ℕ) (l : List ℕ) → positives l ≤ size → named (padded size none (supporters v l)) (padded size 0 (shares l)) ≡ beside (supporters v l) (shares l)
unfolding named beside
named-row size v [] h = named_none size
named-row size v (zero ∷ l) h = named-row size (suc v) l h
named-row zero v (suc w ∷ l) h = absurd (omega arith)
named-row (suc size) v (suc w ∷ l) h = ap (λ (r : List ℕ). v ∷ (suc w ∷ r)) (named-row size (suc v) l (omega arith))

none-positive : (size : ℕ) → positives (padded size 0 []) ≡ 0
none-positive zero = refl
none-positive (suc size) = none-positive size

row-positive : (size : ℕ) (l : List ℕ) → positives l ≤ size → positives (padded size 0 (shares l)) ≡ positives l
row-positive size [] h = none-positive size
row-positive size (zero ∷ l) h = row-positive size l h
row-positive zero (suc w ∷ l) h = absurd (omega arith)
row-positive (suc size) (suc w ∷ l) h = ap suc (row-positive size l (omega arith))

-- ---- all rows

named-append : (a b c d : List ℕ) → length a ≡ length b → named (a ++ c) (b ++ d) ≡ named a b ++ named c d
unfolding named
named-append [] [] c d e = refl
named-append [] (y ∷ b) c d e = absurd (omega arith)
named-append (x ∷ a) [] c d e = absurd (omega arith)
named-append (x ∷ a) (zero ∷ b) c d e = named-append a b c d (omega arith)
named-append (x ∷ a) (suc w ∷ b) c d e = ap (λ (r : List ℕ). x ∷ (suc w ∷ r)) (named-append a b c d (omega arith))

abbrev AllFew : ℕ → List (List ℕ) → Type 0
AllFew size [] = Unit {0}
AllFew size (l ∷ ls) = (positives l ≤ size) × AllFew size ls

few-of : (size : ℕ) (ls : List (List ℕ)) → ((l : List ℕ) → Memᴰ l ls → positives l ≤ size) → AllFew size ls
few-of size [] f = tt
few-of size (l ∷ ls) f = (f l (Memᴰ.head refl), few-of size ls (λ x m. f x (Memᴰ.tail m)))

named-rows : (size : ℕ) (ls : List (List ℕ)) → AllFew size ls → named (birth_vertices_of size ls) (birth_weights_of size ls) ≡ pairs ls
unfolding named pairs
named-rows size [] a = refl
named-rows size (l ∷ ls) a =
    named-append (padded size none (supporters 0 l)) (padded size 0 (shares l)) (birth_vertices_of size ls) (birth_weights_of size ls) (length-tab size (λ j. get_or (supporters 0 l) j none) ∙ sym (length-tab size (λ j. get_or (shares l) j 0)))
    ∙ ap (λ (r : List ℕ). r ++ named (birth_vertices_of size ls) (birth_weights_of size ls)) (named-row size 0 l a.0)
    ∙ ap (λ (r : List ℕ). beside (supporters 0 l) (shares l) ++ r) (named-rows size ls a.1)

births-rows : (size R next : ℕ) (ls : List (List ℕ)) → AllFew size ls → birth_rows size R next (length ls) (birth_weights_of size ls) ≡ numbered R next ls
unfolding birth_rows numbered
births-rows size R next [] a = refl
births-rows size R next (l ∷ ls) a =
    let own = padded size 0 (shares l) in
    let e : length own ≡ size = length-tab size (λ j. get_or (shares l) j 0) in
    let t : take size (own ++ birth_weights_of size ls) ≡ own = take_at own (birth_weights_of size ls) size e in
    let u : drop size (own ++ birth_weights_of size ls) ≡ birth_weights_of size ls = drop_at own (birth_weights_of size ls) size e in
    ap (λ (x : List ℕ). next ∷ (R ∷ (positives x ∷ birth_rows size R (suc next) (length ls) (drop size (own ++ birth_weights_of size ls))))) t
    ∙ ap (λ (x : ℕ). next ∷ (R ∷ (x ∷ birth_rows size R (suc next) (length ls) (drop size (own ++ birth_weights_of size ls))))) (row-positive size l a.0)
    ∙ ap (λ (x : List ℕ). next ∷ (R ∷ (positives l ∷ birth_rows size R (suc next) (length ls) x))) u
    ∙ ap (λ (x : List ℕ). next ∷ (R ∷ (positives l ∷ x))) (births-rows size R (suc next) ls a.1)

-- ---- the lists of a refinement

module _ (d R n : ℕ) (ks : List (List ℕ)) (long : (k : List ℕ) → In ks k → length k ≡ suc d) where
  few : AllFew (suc d) (births d R n ks)
  few =
      few-of (suc d) (births d R n ks) (births-all (λ l. positives l ≤ suc d) (visits d R n ks) [] (λ l m. absurd (Memᴰ.not-nil m)) (λ l m e.
      let q = subst (λ (x : List (List ℕ)). Memᴰ l x) (visits-pattern d R n ks) m in
      let (k, a, b) = of-gather (λ k. map (λ us. tab n (weigh k us)) (pattern_of d R)) ks q in
      let (us, p, is) = Memᴰ.of_map (λ us. tab n (weigh k us)) (pattern_of d R) b in
      omega (arith, ap positives is, positives-most n k us, long k a)))

  -- the lists that are handed out are the refined mesh
  pub handed-mesh : (cs : List (List ℕ)) → mesh_from d R n (vertices d R n ks) (results_of d R n cs ks) ≡ refined_mesh d R n ks
  handed-mesh cs =
      let bs = births d R n ks in
      let m : vertices d R n ks - n ≡ length bs = omega arith in
      let b : birth_rows (suc d) R n (vertices d R n ks - n) (birth_weights_of (suc d) bs) ≡ numbered R n bs = ap (λ (x : ℕ). birth_rows (suc d) R n x (birth_weights_of (suc d) bs)) m ∙ births-rows (suc d) R n bs few in
      let words = (refined_mesh d R n ks).words in
      ap (λ (x : List ℕ). mesh_of d words x (named (birth_vertices_of (suc d) bs) (birth_weights_of (suc d) bs))) b
      ∙ ap (λ (x : List ℕ). mesh_of d words (numbered R n bs) x) (named-rows (suc d) bs few)
    where
      mesh_of : ℕ → List ℕ → List ℕ → List ℕ → Mesh
      mesh_of e w x y = record { d = e; words = w; births = x; pairs = y }
