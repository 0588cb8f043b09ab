-- The lists of births that a refinement hands out tell every vertex's shares. Assumes nothing.
use mathlib.Core.Bool.{Bool, true, false, ◌||◌}
use mathlib.Core.Path.{◌≡◌, refl, sym, ap, ◌∙◌, subst}
use mathlib.Core.Logic.{⊎_elim}
use mathlib.Core.List.Memᴰ
use mathlib.Core.List.{List, [], ◌∷◌, ◌++◌, map, Memᴰ}
use Prim.Native.Nat.{ℕ, zero, suc, ◌+◌, ◌*◌, ◌-◌, ◌≤◌, ◌<◌}
use native.Mathlib.Nat.{zero-add}
use native.Mathlib.Decide.{dec_lt}
use native.Mathlib.Omega.{arith}
use lib.Dec.{eqb, ltb, lt→ltb, ltb→lt}
use lib.ListN.{length, get_or, length-map}
use Rattle.lists.specs.Rows.{flat, row}
use Rattle.lists.proofs.Laws.{map_at}
use Rattle.lists.proofs.Flat.{flat-at}
use Rattle.refine_lattice.specs.Lattice.{weights}
use Rattle.lists.specs.Words.{same, none}
use Rattle.refine_lattice.specs.Complex.{weigh}
use Rattle.refine_lattice.specs.Children.{gather, children, pick}
use Rattle.refine_lattice.specs.Refine.{point, visits, positives, place, births_from, births, vertices, share, In}
use Rattle.lists.proofs.Tables.{length-tab, get_or-tab}
use Rattle.lists.proofs.Words.{same-yes, same-no}
use Rattle.refine_lattice.proofs.Enumerate.{of-gather}
use Rattle.refine_lattice.proofs.Refines.{mem-at, yes-pick, no-pick}
use Rattle.refine_births.specs.Support.{supporters, shares, padded}
use Rattle.refine_births.specs.Promise.{birth_vertices_of, birth_weights_of}
use Rattle.refine_births.proofs.Points.{supporters-long, shares-long, supporters-low, weigh-past, positives-most}
use Rattle.refine_results.specs.Results.{results_of}
use Rattle.refine_laws.specs.Calls.{told}

-- a support and its shares weigh what the point's share is; the list's first share is that of vertex u
before : (u : ℕ) (l : List ℕ) (v : ℕ) → v < u → weigh (supporters u l) (shares l) v ≡ 0
before u l v h =
    weigh-past (supporters u l) (shares l) v (shares-long l ∙ sym (supporters-long u l))
    (λ i k e. absurd (omega (arith, e, supporters-low u l i 0 (omega (arith, supporters-long u l)))))

support-share : (u : ℕ) (l : List ℕ) (i : ℕ) → weigh (supporters u l) (shares l) (u + i) ≡ get_or l i 0
support-share u [] i = refl
support-share u (zero ∷ l) zero = before (suc u) l (u + zero) (omega arith)
support-share u (zero ∷ l) (suc i) =
    let e : u + suc i ≡ suc u + i = omega arith in
    ap (weigh (supporters (suc u) l) (shares l)) e ∙ support-share (suc u) l i
support-share u (suc w ∷ l) zero =
    omega (arith, ap (λ (y : ℕ). suc w * y) (same-yes (u + zero) u (omega arith)), before (suc u) l (u + zero) (omega arith))
support-share u (suc w ∷ l) (suc i) =
    let e : u + suc i ≡ suc u + i = omega arith in
    omega (
      arith,
      ap (λ (y : ℕ). suc w * y) (same-no (u + suc i) u (λ q. absurd (omega arith))),
      ap (weigh (supporters (suc u) l) (shares l)) e,
      support-share (suc u) l i,
    )

-- past the support stand weights of 0
padded-share : (size : ℕ) (k ws : List ℕ) (z v : ℕ) → length ws ≡ length k → length k ≤ size → weigh (padded size z k) (padded size 0 ws) v ≡ weigh k ws v
padded-share size [] [] z v e h =
    weigh-past (padded size z []) (padded size 0 []) v (length-tab size (λ j. 0) ∙ sym (length-tab size (λ j. z)))
    (λ i k q. get_or-tab size (λ j. 0) i 0 (omega (arith, length-tab size (λ j. z))))
padded-share size [] (w ∷ ws) z v e h = absurd (omega arith)
padded-share size (x ∷ k) [] z v e h = absurd (omega arith)
padded-share zero (x ∷ k) (w ∷ ws) z v e h = absurd (omega arith)
padded-share (suc size) (x ∷ k) (w ∷ ws) z v e h = ap (λ (y : ℕ). w * same v x + y) (padded-share size k ws z v (omega arith) (omega arith))

-- a row of rows written one after the other
row-map : (size : ℕ) (g : List ℕ → List ℕ) (ls : List (List ℕ)) → ((l : List ℕ) → length (g l) ≡ size) → (b : ℕ) → b < length ls → row (flat (map g ls)) size b ≡ g (get_or ls b [])
row-map size g ls e b h =
    let k : length (map g ls) ≡ length ls = length-map ls g in
    flat-at size (map g ls) (λ r m. let (l, p, q) = Memᴰ.of_map g ls m in ap length (sym q) ∙ e l) b (omega arith) ∙ map_at g ls b [] [] h

-- what holds of all visits holds of all births
keep : (P : List ℕ → Type 0) (b : Bool) (seen : List (List ℕ)) (x : List ℕ) → ((l : List ℕ) → Memᴰ l seen → P l) → P x → (l : List ℕ) → Memᴰ l (pick b seen (seen ++ (x ∷ []))) → P l
keep P true seen x f p l m = f l m
keep P false seen x f p l m =
    ⊎_elim (f l) (λ q. ⊎_elim (λ e. subst P (sym e) p) (λ r. absurd (Memᴰ.not-nil r)) (Memᴰ.cases_cons q)) (Memᴰ.append_cases seen m)

births-all : (P : List ℕ → Type 0) (ls seen : List (List ℕ)) → ((l : List ℕ) → Memᴰ l seen → P l) → ((l : List ℕ) → Memᴰ l ls → P l) → (l : List ℕ) → Memᴰ l (births_from seen ls) → P l
births-all P [] seen f g l m = f l m
births-all P (x ∷ ls) seen f g l m =
    let b : Bool = eqb (positives x) 1 || ltb (place seen x) (length seen) in
    births-all P ls (pick b seen (seen ++ (x ∷ []))) (keep P b seen x f (g x (Memᴰ.head refl))) (λ y q. g y (Memᴰ.tail q)) l m

module _ (d R n : ℕ) (ks : List (List ℕ)) (long : (k : List ℕ) → In ks k → length k ≡ suc d) where
  -- a birth has at most d + 1 positive shares
  few : (l : List ℕ) → Memᴰ l (births d R n ks) → positives l ≤ suc d
  few =
      births-all (λ l. positives l ≤ suc d) (visits d R n ks) [] (λ l m. absurd (Memᴰ.not-nil m))
      (λ l m.
      let (k, a, b) = of-gather (λ k. gather (λ c. map (point R n k) c) (children d R)) ks m in
      let (c, p, q) = of-gather (λ c. map (point R n k) c) (children d R) b in
      let (s, t, e) = Memᴰ.of_map (point R n k) c q in
      omega (arith, ap positives e, positives-most n k (weights R s), long k a))

  birth-told : (cs : List (List ℕ)) (b v : ℕ) → b < length (births d R n ks)
      → weigh (row (birth_vertices_of (suc d) (births d R n ks)) (suc d) b) (row (birth_weights_of (suc d) (births d R n ks)) (suc d) b) v ≡ get_or (get_or (births d R n ks) b []) v 0
  birth-told cs b v h =
      let bs : List (List ℕ) = births d R n ks in
      let l : List ℕ = get_or bs b [] in
      ap (λ (r : List ℕ). weigh r (row (birth_weights_of (suc d) bs) (suc d) b) v)
      (row-map (suc d) (λ l. padded (suc d) none (supporters 0 l)) bs (λ l. length-tab (suc d) (λ j. get_or (supporters 0 l) j none)) b h)
      ∙ ap (λ (r : List ℕ). weigh (padded (suc d) none (supporters 0 l)) r v)
      (row-map (suc d) (λ l. padded (suc d) 0 (shares l)) bs (λ l. length-tab (suc d) (λ j. get_or (shares l) j 0)) b h)
      ∙ padded-share (suc d) (supporters 0 l) (shares l) none v (shares-long l ∙ sym (supporters-long 0 l)) (omega (arith, supporters-long 0 l, few l (mem-at bs b h)))
      ∙ ap (weigh (supporters 0 l) (shares l)) (sym (zero-add v))
      ∙ support-share 0 l v

  -- the lists tell the shares of every vertex
  pub told-share : (cs : List (List ℕ)) (x v : ℕ) → x < vertices d R n ks → told d R n (results_of d R n cs ks) x v ≡ share d R n ks x v
  told-share cs x v h =
      let one : ℕ = R * same x v in
      let lists : ℕ = weigh (row (birth_vertices_of (suc d) (births d R n ks)) (suc d) (x - n)) (row (birth_weights_of (suc d) (births d R n ks)) (suc d) (x - n)) v in
      let point : ℕ = get_or (get_or (births d R n ks) (x - n) []) v 0 in
      elim (dec_lt x n) [
        | yes l ↦ yes-pick (ltb x n) one lists (lt→ltb x n l) ∙ sym (yes-pick (ltb x n) one point (lt→ltb x n l))
        | no l ↦
            no-pick (ltb x n) one lists (λ t. l (ltb→lt x n t)) ∙ birth-told cs (x - n) v (omega arith) ∙ sym (no-pick (ltb x n) one point (λ t. l (ltb→lt x n t)))
      ]
