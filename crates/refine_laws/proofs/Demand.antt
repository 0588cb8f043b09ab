-- DEMAND 3 over the promise and the caller's own lists: what is read of a list at exit is what was handed out, and what was handed out obeys the law of three calls.
-- Assumes nothing.
use Rattle.refusal.specs.declared.Refusal.{Refusal}
use Rattle.std.specs.Prelude.{Result}
use mathlib.Core.Path.{◌≡◌, refl, sym, ap, ◌∙◌, subst}
use mathlib.Core.List.Memᴰ
use mathlib.Core.List.{List, map}
use Prim.Native.Nat.{ℕ, suc, ◌*◌, ◌-◌, ◌<◌}
use native.Mathlib.Omega.{arith}
use lib.ListN.{length, get_or, take, drop, length-map}
use lib.Seq.{take_at}
use Rattle.refusal.specs.Limits.{square_most}
use Rattle.refusal.specs.Lent.{onto}
use Rattle.lists.specs.Rows.{flat}
use Rattle.lists.specs.Words.{none}
use Rattle.lists.proofs.Flat.{each_long, flat-length}
use Rattle.lists.proofs.Tables.{length-tab}
use Rattle.complex.specs.Check.{Passed}
use Rattle.complex.specs.Cells.{cells_of}
use Rattle.complex.specs.Facets.{cell_at}
use Rattle.complex.proofs.Fine.{fine-passed}
use Rattle.ordering_words.specs.Order.{Orders}
use Rattle.refine_lattice.specs.Refine.{births, vertices, share, In}
use Rattle.refine_lattice.specs.Conform.{Sound}
use Rattle.refine_lattice.proofs.Count.{Nodup, length-gather}
use Rattle.refine_lattice.proofs.Fits.{Stage}
use Rattle.refine_births.specs.Support.{supporters, shares, padded}
use Rattle.refine_births.specs.Promise.{birth_weights_of}
use Rattle.refine_jacobian.specs.Entries.{share_of, whole_of, float_of}
use Rattle.refine_results.specs.declared.Refinement.{Refinement}
use Rattle.refine_results.specs.Says.{sizes}
use Rattle.refine_results.specs.Refined.{coarse, order_words, refined_cells, refined_words, parent_of}
use Rattle.refine_results.specs.Results.{Results, Refines, results_of, Stored}
use Rattle.refine_laws.specs.Composition.{Accepted, Composes, Law, LawSorted}
use Rattle.refine_laws.specs.Calls.{Refine, RefineWith, Tower}
use Rattle.refine_laws.specs.Demand.{Lists, Promised, RefinePromised, RefineWithPromised, read_by, HadRoom, Demand3, Demand3Sorted}
use Rattle.refine_laws.proofs.Listed.{Listed}
use Rattle.refine_laws.proofs.Checked.{cells-listed, order-listed, sound-of, stage-of, stage-sorted}
use Rattle.refine_laws.proofs.Facets.{listed-nodup}
use Rattle.refine_laws.proofs.Again.{refined-listed, sorted-sound}
use Rattle.refine_laws.proofs.Composition.{composition, composition-sorted}
use Rattle.refine_laws.proofs.Made.{IsMade, Makes, tells, is_made, promised-called}
use Rattle.refine_laws.proofs.Calls.{tower-of}

-- ---- what stands at the start of a list at exit
front : {A : Type 0} (n : ℕ) (h xs ys : List A) → ys ≡ onto h xs → length h ≡ n → take n ys ≡ h
front n h xs ys e q = ap (take n) e ∙ take_at h (drop (length h) xs) n q

-- the lists that a refinement hands out have a row for each child and for each new vertex
module _ (d R n : ℕ) (cs ks : List (List ℕ)) (some : 0 < R) (sound : Sound d n (In ks)) (nodup : Nodup ks) where
  abbrev rcs : List (List ℕ)
  rcs = refined_cells d R n ks

  abbrev bs : List (List ℕ)
  bs = births d R n ks

  listed : Listed d (vertices d R n ks) (refined_cells d R n ks) (refined_words d R n ks)
  listed = refined-listed d R n ks some sound nodup

  many_cells : length (results_of d R n cs ks).cells_out ≡ length (refined_cells d R n ks) * suc d
  many_cells = flat-length (suc d) rcs (each_long (suc d) rcs listed.long)

  many-words : length (results_of d R n cs ks).words_out ≡ length (refined_cells d R n ks) * suc d
  many-words = flat-length (suc d) (refined_words d R n ks) (sorted-sound d R n ks some sound nodup).complex.long ∙ ap (λ (k : ℕ). k * suc d) listed.many

  many-parents : length (results_of d R n cs ks).parents_out ≡ length (refined_cells d R n ks)
  many-parents = length-map rcs (parent_of d R n ks)

  many-jacobians : length (results_of d R n cs ks).jacobians_out ≡ length (refined_cells d R n ks) * square_most
  many-jacobians = length-gather (λ c. float_of d R (share d R n ks) (cell_at cs (parent_of d R n ks c)) c) square_most rcs (λ c. refl)

  many-wholes : length (results_of d R n cs ks).wholes_out ≡ length (refined_cells d R n ks) * square_most
  many-wholes = length-gather (λ c. whole_of d (share d R n ks) (cell_at cs (parent_of d R n ks c)) c) square_most rcs (λ c. refl)

  padded-rows : (z : ℕ) (f : List ℕ → List ℕ) → length (flat (map (λ l. padded (suc d) z (f l)) bs)) ≡ length (births d R n ks) * suc d
  padded-rows z f =
      flat-length (suc d) (map (λ l. padded (suc d) z (f l)) bs)
      (λ w m. let (l, p, q) = Memᴰ.of_map (λ l. padded (suc d) z (f l)) bs m in ap length (sym q) ∙ length-tab (suc d) (λ j. get_or (f l) j z))
      ∙ ap (λ (k : ℕ). k * suc d) (length-map bs (λ l. padded (suc d) z (f l)))

  many-shares : length (results_of d R n cs ks).birth_shares ≡ length (births d R n ks) * suc d
  many-shares = length-map (birth_weights_of (suc d) bs) (share_of R) ∙ padded-rows 0 shares

-- ---- what a caller reads is what was handed out
module _ (d R : ℕ) (ws : List ℕ) (ks : List (List ℕ)) (some : 0 < R) (sound : Sound d (coarse ws) (In ks)) (nodup : Nodup ks) (l l' : Lists) where
  abbrev handed : Results
  handed = results_of d R (coarse ws) (cells_of d ws) ks

  abbrev said : Result Refinement Refusal
  said = sizes (length (refined_cells d R (coarse ws) ks)) (vertices d R (coarse ws) ks)

  born : (vertices d R (coarse ws) ks - coarse ws) * suc d ≡ length (births d R (coarse ws) ks) * suc d
  born = ap (λ (k : ℕ). k * suc d) {x = vertices d R (coarse ws) ks - coarse ws} {y = length (births d R (coarse ws) ks)} (omega arith)

  read-stored : Stored (results_of d R (coarse ws) (cells_of d ws) ks) l.out_cells l'.out_cells l.out_words l'.out_words l.parents l'.parents
      l.jacobians l'.jacobians l.wholes l'.wholes l.birth_vertices l'.birth_vertices l.birth_weights l'.birth_weights l.birth_shares l'.birth_shares
      → read_by d ws (sizes (length (refined_cells d R (coarse ws) ks)) (vertices d R (coarse ws) ks)) l' ≡ results_of d R (coarse ws) (cells_of d ws) ks
  read-stored s =
      let n : ℕ = coarse ws in
      let cs : List (List ℕ) = cells_of d ws in
      let a = front _ handed.cells_out l.out_cells l'.out_cells s.in_cells (many_cells d R n cs ks some sound nodup) in
      let b = front _ handed.words_out l.out_words l'.out_words s.in_words (many-words d R n cs ks some sound nodup) in
      let c = front _ handed.parents_out l.parents l'.parents s.in_parents (many-parents d R n cs ks some sound nodup) in
      let e = front _ handed.jacobians_out l.jacobians l'.jacobians s.in_jacobians (many-jacobians d R n cs ks some sound nodup) in
      let f = front _ handed.wholes_out l.wholes l'.wholes s.in_wholes (many-wholes d R n cs ks some sound nodup) in
      let g = front _ handed.birth_vertices l.birth_vertices l'.birth_vertices s.in_vertices (padded-rows d R n cs ks some sound nodup none (supporters 0) ∙ sym born) in
      let h = front _ handed.birth_weights l.birth_weights l'.birth_weights s.in_weights (padded-rows d R n cs ks some sound nodup 0 shares ∙ sym born) in
      let k = front _ handed.birth_shares l.birth_shares l'.birth_shares s.in_shares (many-shares d R n cs ks some sound nodup ∙ sym born) in
      λ i. record {
        cells_out = a i;
        words_out = b i;
        parents_out = c i;
        jacobians_out = e i;
        wholes_out = f i;
        birth_vertices = g i;
        birth_weights = h i;
        birth_shares = k i;
      }

-- the same of a call that is not refused
pub read-handed : (d R : ℕ) (ws : List ℕ) (Good : Type 0) (ks : List (List ℕ)) → Sound d (coarse ws) (In ks) → Nodup ks → (r : Result Refinement Refusal) (l l' : Lists)
    → (x : Promised d R ws Good ks r l l') → Makes d R ws Good ks r x.handed → read_by d ws r l' ≡ x.handed
read-handed d R ws Good ks sound nodup r l l' x k =
    ap (λ (s : Result Refinement Refusal). read_by d ws s l') k.says
    ∙ read-stored d R ws ks k.fits.least sound nodup l l'
    (subst
    (λ (h : Results).
    Stored h l.out_cells l'.out_cells l.out_words l'.out_words l.parents l'.parents l.jacobians l'.jacobians l.wholes l'.wholes
    l.birth_vertices l'.birth_vertices l.birth_weights l'.birth_weights l.birth_shares l'.birth_shares)
    k.hands x.stored)
    ∙ sym k.hands

-- so the laws over what a call says and hands out (`Refine`, `RefineWith`) hold of the caller's own lists, whether an order agrees or not
pub read-with : (d R : ℕ) (ws os : List ℕ) (m N : ℕ) (l l' : Lists) → RefineWithPromised d R ws os (sizes m N) l l' → RefineWith d R ws os (sizes m N) (read_by d ws (sizes m N) l')
unfolding IsMade
read-with d R ws os m N l l' x =
    let ks : List (List ℕ) = order_words d ws os in
    let k : Makes d R ws (Orders d (cells_of d ws) os) ks (sizes m N) x.handed = tells d R ws _ ks _ _ _ (sizes m N) x.handed x.comes tt in
    let p : Passed d ws = fine-passed d ws k.accepted.fine in
    let h : Listed d (coarse ws) (cells_of d ws) ks = order-listed d ws p os k.good in
    subst (λ (y : Results). RefineWith d R ws os (sizes m N) y)
    (sym (read-handed d R ws _ ks (sound-of d ws p ks h k.accepted.uncrowded) (listed-nodup d (coarse ws) (cells_of d ws) ks h) (sizes m N) l l' x k))
    (promised-called d R ws (Orders d (cells_of d ws) os) ks m N l l' x)

pub read-sorted : (d R : ℕ) (ws : List ℕ) (m N : ℕ) (l l' : Lists) → RefinePromised d R ws (sizes m N) l l' → Refine d R ws (sizes m N) (read_by d ws (sizes m N) l')
unfolding IsMade
read-sorted d R ws m N l l' x =
    let ks : List (List ℕ) = cells_of d ws in
    let k : Makes d R ws (Unit {0}) ks (sizes m N) x.handed = tells d R ws _ ks _ _ _ (sizes m N) x.handed x.comes tt in
    let p : Passed d ws = fine-passed d ws k.accepted.fine in
    let h : Listed d (coarse ws) ks ks = cells-listed d ws p in
    subst (λ (y : Results). Refine d R ws (sizes m N) y)
    (sym (read-handed d R ws _ ks (sound-of d ws p ks h k.accepted.uncrowded) (listed-nodup d (coarse ws) ks ks h) (sizes m N) l l' x k))
    (promised-called d R ws (Unit {0}) ks m N l l' x)

-- ---- the tower
module _ (d a b : ℕ) (ws : List ℕ) (Good : Type 0) (ks : List (List ℕ)) (stage : Accepted d ws → Good → Stage d (coarse ws) ks) (law : Accepted d ws → Good → Refines d (a * b) (coarse ws) ks → Composes d a b (coarse ws) ks (flat (refined_cells d a (coarse ws) ks)) (flat (refined_words d a (coarse ws) ks))) (m N : ℕ) (r₁ r₂ : Result Refinement Refusal) (l l' l₁ l₁' l₂ l₂' : Lists) where
  -- what stands in the lists at exit
  abbrev single : Results
  single = read_by d ws (sizes m N) l'

  -- the second call, given what the first handed out
  abbrev Second : Results → Type 0
  Second h = Promised d b h.cells_out (Orders d (cells_of d h.cells_out) h.words_out) (order_words d h.cells_out h.words_out) r₂ l₂ l₂'

  abbrev Done : Results → Type 0
  Done h = Tower d a b ws m N single r₁ h r₂ (read_by d h.cells_out r₂ l₂')

  abbrev first : Results
  first = results_of d a (coarse ws) (cells_of d ws) ks

  over : (c : Composes d a b (coarse ws) ks first.cells_out first.words_out) → Makes d (a * b) ws Good ks (sizes m N) single → Makes d a ws Good ks r₁ first
      → Second first → HadRoom r₂ → Done first
  over c y y₁ x₂ t =
      let ws₁ : List ℕ = first.cells_out in
      let ks₁ : List (List ℕ) = order_words d ws₁ first.words_out in
      let p : Passed d ws₁ = fine-passed d ws₁ c.accepted.fine in
      let s : Stage d (coarse ws₁) ks₁ = stage-of d ws₁ p ks₁ (order-listed d ws₁ p first.words_out c.ordered.orders) c.accepted.uncrowded c.ordered.agrees in
      let i : IsMade r₂ = is_made d b ws₁ _ ks₁ _ c.accepted c.ordered.orders c.second _ _ r₂ x₂.handed t x₂.comes in
      let k : Makes d b ws₁ (Orders d (cells_of d ws₁) first.words_out) ks₁ r₂ x₂.handed = tells d b ws₁ _ ks₁ _ _ _ r₂ x₂.handed x₂.comes i in
      subst (λ (h : Results). Tower d a b ws m N single r₁ first r₂ h) (sym (read-handed d b ws₁ _ ks₁ s.sound s.nodup r₂ l₂ l₂' x₂ k))
      (tower-of d a b ws Good ks stage law m N single r₁ first r₂ x₂.handed y y₁ k)

  pub demand-of : Promised d (a * b) ws Good ks (sizes m N) l l' → Promised d a ws Good ks r₁ l₁ l₁' → HadRoom r₁ → Second (read_by d ws r₁ l₁') → HadRoom r₂
      → Done (read_by d ws r₁ l₁')
  unfolding IsMade
  demand-of x x₁ t₁ x₂ t₂ =
      let k : Makes d (a * b) ws Good ks (sizes m N) x.handed = tells d (a * b) ws Good ks _ _ _ (sizes m N) x.handed x.comes tt in
      let s : Stage d (coarse ws) ks = stage k.accepted k.good in
      let c : Composes d a b (coarse ws) ks first.cells_out first.words_out = law k.accepted k.good k.fits in
      let i : IsMade r₁ = is_made d a ws Good ks _ k.accepted k.good c.first _ _ r₁ x₁.handed t₁ x₁.comes in
      let k₁ : Makes d a ws Good ks r₁ x₁.handed = tells d a ws Good ks _ _ _ r₁ x₁.handed x₁.comes i in
      let y : Makes d (a * b) ws Good ks (sizes m N) single =
      subst (λ (h : Results). Makes d (a * b) ws Good ks (sizes m N) h) (sym (read-handed d (a * b) ws Good ks s.sound s.nodup (sizes m N) l l' x k)) k in
      let y₁ : Makes d a ws Good ks r₁ first = subst (λ (h : Results). Makes d a ws Good ks r₁ h) k₁.hands k₁ in
      let e : first ≡ read_by d ws r₁ l₁' = sym (read-handed d a ws Good ks s.sound s.nodup r₁ l₁ l₁' x₁ k₁ ∙ k₁.hands) in
      subst (λ (h : Results). Second h → HadRoom r₂ → Done h) e (over c y y₁) x₂ t₂

-- DEMAND 3: an order that agrees on every shared facet
pub demand : (d a b : ℕ) (ws os : List ℕ) → Demand3 d a b ws os
unfolding Demand3 Law
demand d a b ws os m N r₁ r₂ l l' l₁ l₁' l₂ l₂' x agree x₁ t₁ x₂ t₂ =
    let ks : List (List ℕ) = order_words d ws os in
    demand-of d a b ws (Orders d (cells_of d ws) os) ks
    (λ acc ord. let p : Passed d ws = fine-passed d ws acc.fine in stage-of d ws p ks (order-listed d ws p os ord) acc.uncrowded agree)
    (λ acc ord fit. composition d a b ws os acc (record { orders = ord; agrees = agree }) fit)
    m N r₁ r₂ l l' l₁ l₁' l₂ l₂' x x₁ t₁ x₂ t₂

-- and along the cells' sorted vertices
pub demand-sorted : (d a b : ℕ) (ws : List ℕ) → Demand3Sorted d a b ws
unfolding Demand3Sorted LawSorted
demand-sorted d a b ws m N r₁ r₂ l l' l₁ l₁' l₂ l₂' x x₁ t₁ x₂ t₂ =
    demand-of d a b ws (Unit {0}) (cells_of d ws) (λ acc ord. stage-sorted d ws (fine-passed d ws acc.fine) acc.uncrowded)
    (λ acc ord fit. composition-sorted d a b ws acc fit)
    m N r₁ r₂ l l' l₁ l₁' l₂ l₂' x x₁ t₁ x₂ t₂
