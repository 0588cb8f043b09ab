-- The entries of the boundary operator, from the facets of the faces. Assumes nothing.
use Rattle.refusal.specs.declared.Refusal.TheVariants.{BadFaces, CrowdedFacet, TooShort}
use Rattle.refusal.specs.Says.{Counted}
use Rattle.std.specs.Prelude.{Err, Ok}
use mathlib.Core.Bool.{Bool, true, false}
use mathlib.Core.List.{List, [], ◌∷◌, ◌++◌, map, map-append, append-nil, append_assoc}
use mathlib.Core.Path.{◌≡◌, refl, sym, ap, ◌∙◌, subst}
use Prim.Native.Nat.{ℕ, zero, suc, ◌+◌, ◌-◌, ◌*◌, ◌/◌, ◌%◌, ◌<◌, ◌≤◌}
use native.Mathlib.Nat.{suc-mul, zero-mul, add-zero, mod-lt, div-lt_iff_lt-mul}
use native.Mathlib.Numerals.{add-one}
use native.Mathlib.Omega.{arith}
use lib.ListN.{length, get_or, drop, set, length-map}
use lib.Seq.{drop-cons, set_at, append_snoc}
use lib.IntN.{ℤ, pos, negsuc}
use Rattle.lists.specs.Tables.{tab}
use Rattle.lists.proofs.Tables.{length-tab, tab-ext, tab-more}
use Rattle.lists.specs.Rows.{cut}
use Rattle.lists.proofs.Rows.{cut-length, row_in, row-div, row-mod}
use Rattle.multiindex.specs.Sign.{Sign, plus, minus, opposite, induced, sign_number}
use Rattle.complex.specs.Cells.{cells_of}
use Rattle.complex.specs.Facets.{facet_at}
use Rattle.complex.specs.Skeleton.{facet_row_of, facets_of}
use Rattle.complex_cells.proofs.Words.{Word}
use Rattle.skeleton.specs.Promise.{crowded, rest}
use Rattle.skeleton.specs.Work.{Sound}
use Rattle.complex_faces.specs.Faces.{faces_of}
use Rattle.complex_faces.specs.Entries.{Entry, number_of, entry_at, entries_at, entries_below, entries_of, signs_in, faces_in, cofaces_in}
use Rattle.complex_faces.proofs.Laws.{facets-of-faces}
use Rattle.complex_faces.proofs.Shape.{cells-each, faces-cells}
use Rattle.complex_descent.specs.Down.{Classed}
use Rattle.complex_boundary.specs.Promise.{outside, inside, GivesEntries, signs_short, faces_short, cofaces_short, entries_listed}
use Rattle.complex_boundary.specs.Work.{Reached, EntryLists, EntriesHanded, EntriesWorked}

-- ---- lists written from the front
pub tab-put : {A : Type 0} (z : A) (f : ℕ → A) (d : List A) (i : ℕ) (a : A) → a ≡ f i → i < length d → set (tab i f ++ drop i d) i a ≡ tab (i + 1) f ++ drop (i + 1) d
tab-put {A} z f d i a e h =
    ap (λ (l : List A). set (tab i f ++ l) i a) (drop-cons d i z h)
    ∙ set_at (tab i f) (get_or d i z) (drop (suc i) d) a i (length-tab i f)
    ∙ sym (append_snoc (tab i f) a (drop (suc i) d))
    ∙ ap (λ (x : A). (tab i f ++ (x ∷ [])) ++ drop (suc i) d) e
    ∙ ap (λ (l : List A). l ++ drop (suc i) d) (sym (tab-more i f))
    ∙ ap (λ (n : ℕ). tab n f ++ drop n d) (sym (add-one i))

-- ---- signs by parity
pub sign-even : (i : ℕ) → i % 2 ≡ 0 → sign_number (induced i) ≡ pos 1
sign-even zero h = refl
sign-even (suc zero) h = absurd (omega arith)
sign-even (suc (suc i)) h = twice (induced i) ∙ sign-even i (omega arith)
  where
    twice : (s : Sign) → sign_number (opposite (opposite s)) ≡ sign_number s
    twice plus = refl
    twice minus = refl

pub sign-odd : (i : ℕ) → (i % 2 ≡ 0 → ⊥) → sign_number (induced i) ≡ negsuc 0
sign-odd zero h = absurd (h (omega arith))
sign-odd (suc zero) h = refl
sign-odd (suc (suc i)) h = twice (induced i) ∙ sign-odd i (λ e. h (omega arith))
  where
    twice : (s : Sign) → sign_number (opposite (opposite s)) ≡ sign_number s
    twice plus = refl
    twice minus = refl

-- ---- the entries, one after the other
module _ {A : Type 0} (g : Entry → A) (faces cofaces : List (List ℕ)) (n : ℕ) where
  abbrev nth : ℕ → A
  nth x = g (entry_at faces (x / n) (get_or cofaces (x / n) []) (x % n))

  of_one : (c j : ℕ) → j ≤ n → tab (c * n + j) nth ≡ tab (c * n) nth ++ map g (entries_at faces c (get_or cofaces c []) j)
  unfolding entries_at
  of_one c zero h = ap (λ (x : ℕ). tab x nth) (add-zero (c * n)) ∙ sym (append-nil (tab (c * n) nth))
  of_one c (suc j) h =
      let l : j < n = omega arith in
      ap (λ (x : ℕ). tab x nth) {x = c * n + suc j} {y = suc (c * n + j)} (omega arith)
      ∙ tab-more (c * n + j) nth
      ∙ ap (λ (l : List A). l ++ (nth (c * n + j) ∷ [])) (of_one c j (omega arith))
      ∙ append_assoc (tab (c * n) nth) (map g (entries_at faces c (get_or cofaces c []) j)) (nth (c * n + j) ∷ [])
      ∙ ap (λ (x : A). tab (c * n) nth ++ (map g (entries_at faces c (get_or cofaces c []) j) ++ (x ∷ [])))
      (ap (λ (x : ℕ). g (entry_at faces x (get_or cofaces x []) ((c * n + j) % n))) (row-div c j n l) ∙ ap (λ (x : ℕ). g (entry_at faces c (get_or cofaces c []) x)) (row-mod c j n l))
      ∙ ap (λ (l : List A). tab (c * n) nth ++ l) (sym (map-append g (entries_at faces c (get_or cofaces c []) j) (entry_at faces c (get_or cofaces c []) j ∷ [])))

  pub entries-listing : (m : ℕ) → ((c : ℕ) → c < m → length (get_or cofaces c []) ≡ n) → map g (entries_below faces cofaces m) ≡ tab (m * n) nth
  unfolding entries_below
  entries-listing zero h = ap (λ (x : ℕ). tab x nth) (sym (zero-mul n))
  entries-listing (suc m) h =
      map-append g (entries_below faces cofaces m) (entries_at faces m (get_or cofaces m []) (length (get_or cofaces m [])))
      ∙ ap (λ (l : List A). l ++ map g (entries_at faces m (get_or cofaces m []) (length (get_or cofaces m [])))) (entries-listing m (λ c l. h c (omega arith)))
      ∙ ap (λ (x : ℕ). tab (m * n) nth ++ map g (entries_at faces m (get_or cofaces m []) x)) (h m (omega arith))
      ∙ sym (of_one m n (omega arith))
      ∙ ap (λ (x : ℕ). tab x nth) {x = m * n + n} {y = suc m * n} (omega (arith, suc-mul m n))

-- ---- from the classes of the facets
module _ (d k : ℕ) (ws : List ℕ) (f : ℕ) (keys rows spare counts : List ℕ) (a : Reached d (suc k) ws f keys rows spare counts) (high : suc k ≤ d) (g : ℕ) (keys' reps ids : List ℕ) (c : Classed (suc k) (cut (suc (suc k)) f rows) g keys' reps ids) where
  of-faces : Classed (suc k) (faces_of (cells_of d ws) (suc k)) g keys' reps ids
  of-faces = subst (λ (z : List Word). Classed (suc k) z g keys' reps ids) a.same c

  down : facets_of (suc k) (faces_of (cells_of d ws) (suc k)) ≡ faces_of (cells_of d ws) k
  down = facets-of-faces d k (cells_of d ws) (cells-each d (cells_of d ws) a.cells) high

  face-is : (x : ℕ) → x < f * suc (suc k) → number_of (faces_of (cells_of d ws) k) (facet_at (get_or (faces_of (cells_of d ws) (suc k)) (x / suc (suc k)) []) (x % suc (suc k))) ≡ get_or ids (x / suc (suc k) * suc (suc k) + (suc k - x % suc (suc k))) 0
  face-is x h =
      let hc : x / suc (suc k) < f = (div-lt_iff_lt-mul {k = suc (suc k)} (omega arith)).1 h in
      let hi : x % suc (suc k) < suc (suc k) = mod-lt x (omega arith) in
      let s = suc k - x % suc (suc k) in
      let hs : suc k - x % suc (suc k) < suc (suc k) = omega arith in
      let hy : x / suc (suc k) * suc (suc k) + (suc k - x % suc (suc k)) < length (faces_of (cells_of d ws) (suc k)) * suc (suc k) = row_in (x / suc (suc k)) (suc k - x % suc (suc k)) (length (faces_of (cells_of d ws) (suc k))) (suc (suc k)) (omega (arith, a.many)) hs in
      let ec = row-div (x / suc (suc k)) (suc k - x % suc (suc k)) (suc (suc k)) hs in
      let ei : suc k - (x / suc (suc k) * suc (suc k) + (suc k - x % suc (suc k))) % suc (suc k) ≡ x % suc (suc k) = omega (arith, row-mod (x / suc (suc k)) (suc k - x % suc (suc k)) (suc (suc k)) hs) in
      sym
      (of-faces.number (x / suc (suc k) * suc (suc k) + (suc k - x % suc (suc k))) hy
      ∙ ap (λ (z : List Word). number_of z (facet_row_of (suc k) (faces_of (cells_of d ws) (suc k)) (x / suc (suc k) * suc (suc k) + (suc k - x % suc (suc k))))) down
      ∙ ap (λ (z : ℕ). number_of (faces_of (cells_of d ws) k) (facet_at (get_or (faces_of (cells_of d ws) (suc k)) ((x / suc (suc k) * suc (suc k) + (suc k - x % suc (suc k))) / suc (suc k)) []) z)) ei
      ∙ ap (λ (z : ℕ). number_of (faces_of (cells_of d ws) k) (facet_at (get_or (faces_of (cells_of d ws) (suc k)) z []) (x % suc (suc k)))) ec)

  listed : {A : Type 0} (h : Entry → A) → map h (entries_of (cells_of d ws) (suc k)) ≡ tab (f * suc (suc k)) (λ x. h (entry_at (faces_of (cells_of d ws) k) (x / suc (suc k)) (get_or (faces_of (cells_of d ws) (suc k)) (x / suc (suc k)) []) (x % suc (suc k))))
  unfolding entries_of
  listed {A} h =
      entries-listing h (faces_of (cells_of d ws) k) (faces_of (cells_of d ws) (suc k)) (suc (suc k)) (length (faces_of (cells_of d ws) (suc k))) (λ c l. (faces-cells d (cells_of d ws) a.cells (suc k)).long c l)
      ∙ ap (λ (z : ℕ). tab (z * suc (suc k)) (λ x. h (entry_at (faces_of (cells_of d ws) k) (x / suc (suc k)) (get_or (faces_of (cells_of d ws) (suc k)) (x / suc (suc k)) []) (x % suc (suc k))))) a.many

  lists-are : EntryLists (suc k) f ids (entries_of (cells_of d ws) (suc k))
  lists-are =
      record {
        signs_are = subst (λ (z : ℕ). signs_in (entries_of (cells_of d ws) (suc k)) ≡ tab (f * z) (λ x. sign_number (induced (x % z)))) (sym (add-one (suc k))) (listed (λ e. e.sign));
        faces_are =
            subst (λ (z : ℕ). faces_in (entries_of (cells_of d ws) (suc k)) ≡ tab (f * z) (λ x. get_or ids (x / z * z + (suc k - x % z)) 0)) (sym (add-one (suc k)))
            (listed (λ e. e.face) ∙ tab-ext (f * suc (suc k)) (λ x. number_of (faces_of (cells_of d ws) k) (facet_at (get_or (faces_of (cells_of d ws) (suc k)) (x / suc (suc k)) []) (x % suc (suc k)))) (λ x. get_or ids (x / suc (suc k) * suc (suc k) + (suc k - x % suc (suc k))) 0) face-is);
        cofaces_are = subst (λ (z : ℕ). cofaces_in (entries_of (cells_of d ws) (suc k)) ≡ tab (f * z) (λ x. x / z)) (sym (add-one (suc k))) (listed (λ e. e.coface));
      }

pub entry-lists : (d k : ℕ) (ws : List ℕ) (f : ℕ) (keys rows spare counts : List ℕ) → Reached d k ws f keys rows spare counts → 1 ≤ k → k ≤ d → (g : ℕ) (keys' reps ids : List ℕ) → Classed k (cut (suc k) f rows) g keys' reps ids → EntryLists k f ids (entries_of (cells_of d ws) k)
entry-lists d zero ws f keys rows spare counts a some high g keys' reps ids c = absurd (omega arith)
entry-lists d (suc k) ws f keys rows spare counts a some high g keys' reps ids c = lists-are d k ws f keys rows spare counts a high g keys' reps ids c

-- there are enough numbers of facets
pub ids_long : (d k : ℕ) (ws : List ℕ) (f : ℕ) (keys rows spare counts : List ℕ) → Reached d k ws f keys rows spare counts → 1 ≤ k → (g : ℕ) (keys' reps ids : List ℕ) → Classed k (cut (suc k) f rows) g keys' reps ids → f * (k + 1) ≤ length ids
ids_long d zero ws f keys rows spare counts a some g keys' reps ids c = absurd (omega arith)
ids_long d (suc k) ws f keys rows spare counts a some g keys' reps ids c =
    omega (arith, c.long, ap (λ (z : ℕ). z * suc (suc k)) (cut-length (suc (suc k)) f rows), ap (λ (z : ℕ). f * z) (add-one (suc k)))

-- ---- handing out
module _ (k f : ℕ) (ids : List ℕ) (es : List Entry) (a : EntryLists k f ids es) where
  many : length es ≡ f * (k + 1)
  many = sym (length-map es (λ (e : Entry). e.sign)) ∙ ap length a.signs_are ∙ length-tab (f * (k + 1)) (λ x. sign_number (induced (x % (k + 1))))

  signs-many : length (signs_in es) ≡ f * (k + 1)
  signs-many = length-map es (λ (e : Entry). e.sign) ∙ many

  faces-many : length (faces_in es) ≡ f * (k + 1)
  faces-many = length-map es (λ (e : Entry). e.face) ∙ many

  cofaces-many : length (cofaces_in es) ≡ f * (k + 1)
  cofaces-many = length-map es (λ (e : Entry). e.coface) ∙ many

  module _ (signs : List ℤ) (faces cofaces : List ℕ) where
    pub few-signs : length signs < f * (k + 1) → EntriesHanded es (Err TooShort) signs signs faces faces cofaces cofaces
    few-signs h = record { handed = ([], [], []); gives = signs_short (omega (arith, many)); signs_are = refl; faces_are = refl; cofaces_are = refl }

    pub few-faces : length faces < f * (k + 1) → EntriesHanded es (Err TooShort) signs signs faces faces cofaces cofaces
    few-faces h = record { handed = ([], [], []); gives = faces_short (omega (arith, many)); signs_are = refl; faces_are = refl; cofaces_are = refl }

    pub few-cofaces : length cofaces < f * (k + 1) → EntriesHanded es (Err TooShort) signs signs faces faces cofaces cofaces
    few-cofaces h = record { handed = ([], [], []); gives = cofaces_short (omega (arith, many)); signs_are = refl; faces_are = refl; cofaces_are = refl }

    pub all-handed : (signs' : List ℤ) (faces' cofaces' : List ℕ) → f * (k + 1) ≤ length signs → f * (k + 1) ≤ length faces → f * (k + 1) ≤ length cofaces →
        signs' ≡ tab (f * (k + 1)) (λ x. sign_number (induced (x % (k + 1)))) ++ drop (f * (k + 1)) signs →
        faces' ≡ tab (f * (k + 1)) (λ x. get_or ids (x / (k + 1) * (k + 1) + (k - x % (k + 1))) 0) ++ drop (f * (k + 1)) faces →
        cofaces' ≡ tab (f * (k + 1)) (λ x. x / (k + 1)) ++ drop (f * (k + 1)) cofaces → EntriesHanded es (Ok (f * (k + 1))) signs signs' faces faces' cofaces cofaces'
    all-handed signs' faces' cofaces' h i j p q r =
        record {
          handed = (signs_in es, faces_in es, cofaces_in es);
          gives = subst (λ (z : ℕ). GivesEntries es (length signs) (length faces) (length cofaces) (Ok z) (signs_in es, faces_in es, cofaces_in es)) many (entries_listed (omega (arith, many)) (omega (arith, many)) (omega (arith, many)));
          signs_are = p ∙ ap (λ (z : List ℤ). z ++ drop (f * (k + 1)) signs) (sym a.signs_are) ∙ ap (λ (z : ℕ). signs_in es ++ drop z signs) (sym signs-many);
          faces_are = q ∙ ap (λ (z : List ℕ). z ++ drop (f * (k + 1)) faces) (sym a.faces_are) ∙ ap (λ (z : ℕ). faces_in es ++ drop z faces) (sym faces-many);
          cofaces_are = r ∙ ap (λ (z : List ℕ). z ++ drop (f * (k + 1)) cofaces) (sym a.cofaces_are) ∙ ap (λ (z : ℕ). cofaces_in es ++ drop z cofaces) (sym cofaces-many);
        }

-- ---- after 7
module _ (d k : ℕ) (ws : List ℕ) (ok : Bool) (s : Sound d ws ok) (signs : List ℤ) (faces cofaces : List ℕ) where
  pub entries-crowded : ok ≡ false → EntriesWorked d k ws (Err CrowdedFacet) signs signs faces faces cofaces cofaces
  entries-crowded e = record { handed = ([], [], []); ends = crowded (s.no e); signs_are = refl; faces_are = refl; cofaces_are = refl }

  pub entries-outside : ok ≡ true → ((1 ≤ k) × (k ≤ d) → ⊥) → EntriesWorked d k ws (Err BadFaces) signs signs faces faces cofaces cofaces
  entries-outside e h = record { handed = ([], [], []); ends = rest (s.yes e) (outside h); signs_are = refl; faces_are = refl; cofaces_are = refl }

  pub entries-rest : (r : Counted) (signs' : List ℤ) (faces' cofaces' : List ℕ) → ok ≡ true → 1 ≤ k → k ≤ d → EntriesHanded (entries_of (cells_of d ws) k) r signs signs' faces faces' cofaces cofaces' → EntriesWorked d k ws r signs signs' faces faces' cofaces cofaces'
  entries-rest r signs' faces' cofaces' e h l q = record { handed = q.handed; ends = rest (s.yes e) (inside (h, l) q.gives); signs_are = q.signs_are; faces_are = q.faces_are; cofaces_are = q.cofaces_are }

-- ---- the place of an entry's facet
pub place-fits : (k m x : ℕ) → x < m * (k + 1) → (x / (k + 1) * (k + 1) + (k - x % (k + 1)) < m * (k + 1)) × (x % (k + 1) ≤ k)
place-fits k m x h =
    let hc : x / (k + 1) < m = (div-lt_iff_lt-mul {k = k + 1} (omega arith)).1 h in
    let hi : x % (k + 1) < k + 1 = mod-lt x (omega arith) in
    (row_in (x / (k + 1)) (k - x % (k + 1)) m (k + 1) hc (omega arith), omega arith)
