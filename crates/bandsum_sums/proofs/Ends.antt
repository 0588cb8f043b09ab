-- What the calls say where a grid is taken and the lists are long enough: never 12. Assumes nothing.
use Rattle.grid_order.specs.declared.Triangulated.TheVariants.{Unordered}
use Rattle.grid_order.specs.declared.Triangulated.TheVariants.{Ordered}
use Rattle.refusal.specs.declared.Refusal.{Refusal}
use Rattle.refusal.specs.declared.Refusal.TheVariants.{CrowdedFacet}
use Rattle.refusal.specs.Says.{Answer, Counted, fine}
use Rattle.std.specs.Prelude.{Err, Ok, Result}
use mathlib.Core.Bool.{Bool, true, false}
use mathlib.Core.List.{List, []}
use mathlib.Core.Path.{◌≡◌, refl, sym, ap, ◌∙◌, subst}
use Prim.Native.Nat.{ℕ, ◌+◌, ◌*◌, ◌≤◌}
use native.Mathlib.Omega.{arith}
use lib.IntN.{ℤ, pos}
use lib.ListN.{length, take, drop, replicate, length-append, length-replicate}
use lib.Seq.{take_at}
use Rattle.refusal.specs.declared.Room.{Room}
use Rattle.refusal.specs.Lent.{onto, lengths, Roomy}
use Rattle.refusal.specs.Call.{Comes, refused, cramped, ended}
use Rattle.refusal.proofs.Chain.{fine-refused}
use Rattle.lists.specs.Rows.{flat}
use Rattle.complex.specs.Cells as Complex
use Rattle.complex.specs.Check.{answer_of}
use Rattle.complex.specs.Facets.{Crowded}
use Rattle.complex.specs.Room.{key_room, need_of}
use Rattle.complex_facets.specs.Records.{record_need}
use Rattle.complex.specs.Skeleton.{edges_of, border_of}
use Rattle.complex.proofs.Fine.{passed-fine}
use Rattle.skeleton.specs.Promise.{Gives, Listed}
use Rattle.skeleton.specs.Promise.Gives.{short, listed}
use Rattle.skeleton.specs.Promise.Ends.{crowded as list-crowded, rest as list-rest}
use Rattle.skeleton.specs.Promise as Skeleton
use Rattle.skeleton.specs.Parts.{edge_need}
use Rattle.skeleton.proofs.Steps.{room_most}
use Rattle.orientation.specs.declared.Coherence.{Coherence}
use Rattle.orientation.specs.Promise.{Orientation}
use Rattle.orientation.specs.Promise.Ends.{crowded as signs-crowded, one_sided, short as signs_short, signed}
use Rattle.orientation.specs.Promise as Signs
use Rattle.quotient.specs.declared.Grid.{Grid}
use Rattle.quotient.specs.Shape.{check_of, cell_count, vertices_of, nvertices_of}
use Rattle.grid_words.specs.Cells.{flat_words}
use Rattle.grid_words.proofs.Corners.{dim}
use Rattle.grid_words.proofs.Good.{words-pass}
use Rattle.grid_words.proofs.Listed.{words_long}
use Rattle.grid_mesh.specs.Words.{glued_cells, corners_of, grid_need, WordsEnd, CellWords}
use Rattle.grid_mesh.specs.Words.WordsEnd.{crowded as mesh-crowded, short as mesh-short, written as mesh-written}
use Rattle.grid_mesh.proofs.Steps.{words-many, corners-are}
use Rattle.grid_order.specs.declared.Triangulated.{Triangulated}
use Rattle.grid_order.specs.Promise.Ends.{crowded as order-crowded, short as order-short, short_order as order-short-order, ordered as order-ordered, unordered as order-unordered}
use Rattle.grid_order.specs.Promise as Order
use Rattle.grid_order.specs.Promise.{Handed, nothing, order_room, HandsOut, TriangulateOrdered}
use Rattle.bandsum_lines.specs.declared.Summary.{Summary}
use Rattle.refusal.specs.Told.{count_of}
use Rattle.bandsum_sums.specs.Promise.{SidesOf, two, one, Sound, SumsOf}
use Rattle.bandsum_sums.specs.Promise as Promise
use Rattle.bandsum_sums.specs.Work.{band_corners, band_recorded, band_listed, sides_as, Triangulates, Glued, HasWords, HasCells, Tells}
use Rattle.bandsum_sums.specs.Work as Work
use Rattle.bandsum_sums.proofs.Bounds.{corners-most, words-most, size-most, cells-corners, edges_fit, border-fits}

pub zeros : (n : ℕ) → n ≤ length (replicate {A = ℕ} n 0)
zeros n = omega (arith, length-replicate {A = ℕ} n 0)

pub no-signs : (n : ℕ) → n ≤ length (replicate {A = ℤ} n (pos 0))
no-signs n = omega (arith, length-replicate {A = ℤ} n (pos 0))

-- ---- a call that comes to an end: its checks say Fine and there is room
module _ {S H : Type 0} (no : Refusal → S) (nothing : H) (checked : Answer) (need have : Room) (Ends : S → H → Type 0) where
  comes-end : {r : S} {h : H} {u : Room} → checked ≡ fine → Roomy need have → Comes no nothing checked need have Ends r h u → Ends r h
  comes-end e m (refused {why = why} f) = absurd (fine-refused why (sym f ∙ e))
  comes-end e m (cramped f x) = absurd (x m)
  comes-end e m (ended f x y) = y

-- ---- a list of words is handed out
gives_all : (words : List (List ℕ)) (given : ℕ) (r : Counted) (h : List ℕ) → length (flat words) ≤ given → Gives words given r h → count_of r ≡ length words
gives_all words given r h l (short x) = absurd (let y : ⊥ = omega arith in y)
gives_all words given r h l (listed x) = refl

ends-all : (d : ℕ) (cs words : List (List ℕ)) (given : ℕ) (r : Counted) (h : List ℕ) → (Crowded d cs → ⊥) → length (flat words) ≤ given → Skeleton.Ends [] d cs (Gives words given) r h → count_of r ≡ length words
ends-all d cs words given r h free l (list-crowded x) = absurd (free x)
ends-all d cs words given r h free l (list-rest f x) = gives_all words given r h l x

pub listed-all : (need : Room) (words : List (List ℕ)) (d : ℕ) (ws : List ℕ) (r : Counted) (out out' keys keys' rows rows' spare spare' counts counts' : List ℕ) → answer_of d ws ≡ fine → (Crowded d (Complex.cells_of d ws) → ⊥) →
    Roomy need (lengths keys rows spare counts) → length (flat words) ≤ length out → Listed need words d ws r out out' keys keys' rows rows' spare spare' counts counts' → count_of r ≡ length words
listed-all need words d ws r out out' keys keys' rows rows' spare spare' counts counts' fine free room l t =
    ends-all d (Complex.cells_of d ws) words (length out) r t.handed free l
    (comes-end Err [] (answer_of d ws) need (lengths keys rows spare counts) (Skeleton.Ends [] d (Complex.cells_of d ws) (Gives words (length out))) fine room t.call.comes)

-- ---- a grid that is taken
module _ (g : Grid) (taken : check_of g ≡ fine) where
  pub words-fine : answer_of g.d (flat_words g) ≡ fine
  words-fine = passed-fine g.d (flat_words g) (words-pass g taken)

  keys-most : key_room g.d (corners_of g) ≤ band_listed
  keys-most = omega (arith, room_most g.d (corners_of g) (dim g taken), corners-most g taken)

  pub grid-roomy : (keys rows spare counts : List ℕ) → band_listed ≤ length keys → band_corners ≤ length rows → band_corners ≤ length spare → band_corners ≤ length counts → Roomy (grid_need g) (lengths keys rows spare counts)
  grid-roomy keys rows spare counts k r s c =
      record { in_keys = omega (arith, keys-most); in_rows = omega (arith, corners-most g taken); in_spare = omega (arith, corners-most g taken); in_counts = omega (arith, corners-most g taken) }

  pub order-roomy : (keys rows spare counts : List ℕ) → band_listed + band_corners + band_corners ≤ length keys → band_corners ≤ length rows → band_corners ≤ length spare → band_corners ≤ length counts → Roomy (order_room g) (lengths keys rows spare counts)
  order-roomy keys rows spare counts k r s c =
      record { in_keys = omega (arith, keys-most, corners-most g taken); in_rows = omega (arith, corners-most g taken); in_spare = omega (arith, corners-most g taken); in_counts = omega (arith, corners-most g taken) }

  pub edges-roomy : (n : ℕ) → n ≡ corners_of g → (keys rows spare counts : List ℕ) → band_listed + band_listed ≤ length keys → band_listed ≤ length rows → band_listed ≤ length spare → band_listed ≤ length counts → Roomy (edge_need g.d n) (lengths keys rows spare counts)
  edges-roomy n e keys rows spare counts k r s c =
      let m : key_room g.d n ≤ band_listed = rw e keys-most in
      record { in_keys = omega arith; in_rows = omega arith; in_spare = omega arith; in_counts = omega arith }

  pub records-roomy : (n : ℕ) → n ≡ corners_of g → (keys rows spare counts : List ℕ) → band_recorded ≤ length keys → band_corners ≤ length rows → band_corners ≤ length spare → band_corners ≤ length counts → Roomy (record_need n) (lengths keys rows spare counts)
  records-roomy n e keys rows spare counts k r s c =
      let m : n ≤ band_corners = rw e (corners-most g taken) in
      record { in_keys = omega arith; in_rows = omega arith; in_spare = omega arith; in_counts = omega arith }

  pub taken-counted : count_of (nvertices_of g) ≡ vertices_of g
  unfolding nvertices_of
  taken-counted = rw taken

-- ---- the order
module _ (g : Grid) (cells order keys rows spare counts : List ℕ) (lc : band_corners ≤ length cells) (lo : band_corners ≤ length order) (lk : band_listed + band_corners + band_corners ≤ length keys) (lr : band_corners ≤ length rows) (ls : band_corners ≤ length spare) (ln : band_corners ≤ length counts) where
  order-ends : (r : Result Triangulated Refusal) (h : Handed) → check_of g ≡ fine → Order.Ends g (length cells) (length order) r h → Triangulates g r
  order-ends r h e (order-crowded x) = Work.crowded e x
  order-ends r h e (order-short f l) = absurd (let x : ⊥ = omega (arith, size-most g e) in x)
  order-ends r h e (order-short-order f o l) = absurd (let x : ⊥ = omega (arith, size-most g e) in x)
  order-ends r h e (order-ordered f o l k) = Work.ordered (record { taken = e; free = f }) o
  order-ends r h e (order-unordered f o l) = Work.unordered (record { taken = e; free = f }) o

  order-comes : (r : Result Triangulated Refusal) (h : Handed) (u : Room) → Comes Err nothing (check_of g) (order_room g) (lengths keys rows spare counts) (Order.Ends g (length cells) (length order)) r h u → Triangulates g r
  order-comes r h u (refused e) = Work.refused e
  order-comes r h u (cramped e f) = absurd (f (order-roomy g e keys rows spare counts lk lr ls ln))
  order-comes r h u (ended e m x) = order-ends r h e x

  pub triangulates : (r : Result Triangulated Refusal) (cells' order' keys' rows' spare' counts' : List ℕ) → TriangulateOrdered g r cells cells' order order' keys keys' rows rows' spare spare' counts counts' → Triangulates g r
  triangulates r cells' order' keys' rows' spare' counts' t = order-comes r t.handed t.used t.comes

-- ---- the words
pub record Written (g : Grid) (r : Counted) (words words' : List ℕ) : Type 0 where
  pub many : count_of r ≡ cell_count g
  pub is : words' ≡ onto (flat_words g) words

module _ (g : Grid) (sound : Sound g) (words keys rows spare counts : List ℕ) (lw : band_corners ≤ length words) (lk : band_listed ≤ length keys) (lr : band_corners ≤ length rows) (ls : band_corners ≤ length spare) (ln : band_corners ≤ length counts) where
  words-ends : (r : Counted) (h words' : List ℕ) → words' ≡ onto h words → WordsEnd g (length words) r h → Written g r words words'
  words-ends r h words' e (mesh-crowded x) = absurd (sound.free x)
  words-ends r h words' e (mesh-short f l) = absurd (let x : ⊥ = omega (arith, words-most g sound.taken) in x)
  words-ends r h words' e (mesh-written f l) = record { many = words-many g sound.taken; is = e }

  pub written : (r : Counted) (words' keys' rows' spare' counts' : List ℕ) → CellWords g r words words' keys keys' rows rows' spare spare' counts counts' → Written g r words words'
  written r words' keys' rows' spare' counts' t =
      words-ends r t.handed words' t.result
      (comes-end Err [] (check_of g) (grid_need g) (lengths keys rows spare counts) (WordsEnd g (length words)) sound.taken (grid-roomy g sound.taken keys rows spare counts lk lr ls ln) t.comes)

pub written-glued : (g : Grid) (r : Counted) (words words' : List ℕ) (n : ℕ) → Sound g → band_corners ≤ length words → Written g r words words' → n ≡ count_of r * (g.d + 1) → Glued g n words'
written-glued g r words words' n sound l w e =
    let m : n ≡ length (flat_words g) = e ∙ corners-are g sound.taken (count_of r) w.many ∙ sym (words_long g sound.taken) in
    record {
      many = omega (arith, ap length w.is, length-append (flat_words g) (drop (length (flat_words g)) words));
      begins = ap (take n) w.is ∙ take_at (flat_words g) (drop (length (flat_words g)) words) n (sym m);
    }

pub words_small : (g : Grid) (r : Counted) (words words' : List ℕ) (n : ℕ) → Sound g → Written g r words words' → n ≡ count_of r → n * (g.d + 1) ≤ band_corners
words_small g r words words' n sound w e = omega (arith, corners-are g sound.taken n (e ∙ w.many), corners-most g sound.taken)

-- ---- edges and border of words that are those of the grid
module _ (g : Grid) (ws : List ℕ) (w : HasWords g ws) (r : Counted) (out out' keys keys' rows rows' spare spare' counts counts' : List ℕ) (lo : band_listed ≤ length out) where
  fine-words : answer_of g.d ws ≡ fine
  fine-words = rw w.same (words-fine g w.sound.taken)

  free-words : Crowded g.d (Complex.cells_of g.d ws) → ⊥
  free-words = rw w.same w.sound.free

  long-words : length ws ≡ corners_of g
  long-words = ap length w.same ∙ words_long g w.sound.taken

  pub edges-counted : band_listed + band_listed ≤ length keys → band_listed ≤ length rows → band_listed ≤ length spare → band_listed ≤ length counts →
      Listed (edge_need g.d (length ws)) (edges_of (Complex.cells_of g.d ws)) g.d ws r out out' keys keys' rows rows' spare spare' counts counts' → count_of r ≡ length (edges_of (glued_cells g))
  edges-counted lk lr ls ln t =
      let e : edges_of (Complex.cells_of g.d ws) ≡ edges_of (glued_cells g) = ap (λ (l : List ℕ). edges_of (Complex.cells_of g.d l)) w.same in
      listed-all (edge_need g.d (length ws)) (edges_of (Complex.cells_of g.d ws)) g.d ws r out out' keys keys' rows rows' spare spare' counts counts' fine-words free-words
      (edges-roomy g w.sound.taken (length ws) long-words keys rows spare counts lk lr ls ln) (omega (arith, ap (λ (l : List (List ℕ)). length (flat l)) e, edges_fit g w.sound.taken)) t
      ∙ ap length e

  pub border-counted : band_listed ≤ length keys → band_corners ≤ length rows → band_corners ≤ length spare → band_corners ≤ length counts →
      Listed (need_of g.d (length ws)) (border_of g.d (Complex.cells_of g.d ws)) g.d ws r out out' keys keys' rows rows' spare spare' counts counts' → count_of r ≡ length (border_of g.d (glued_cells g))
  border-counted lk lr ls ln t =
      let e : border_of g.d (Complex.cells_of g.d ws) ≡ border_of g.d (glued_cells g) = ap (λ (l : List ℕ). border_of g.d (Complex.cells_of g.d l)) w.same in
      listed-all (need_of g.d (length ws)) (border_of g.d (Complex.cells_of g.d ws)) g.d ws r out out' keys keys' rows rows' spare spare' counts counts' fine-words free-words
      (subst (λ (n : ℕ). Roomy (need_of g.d n) (lengths keys rows spare counts)) (sym long-words) (grid-roomy g w.sound.taken keys rows spare counts lk lr ls ln)) (omega (arith, ap (λ (l : List (List ℕ)). length (flat l)) e, border-fits g w.sound.taken)) t
      ∙ ap length e

-- ---- the sides, by the signs of words that are those of the grid
module _ (g : Grid) (ws : List ℕ) (w : HasWords g ws) (signs : List ℤ) (keys rows spare counts : List ℕ) (lg : band_corners ≤ length signs) (lk : band_recorded ≤ length keys) (lr : band_corners ≤ length rows) (ls : band_corners ≤ length spare) (ln : band_corners ≤ length counts) where
  sides-end : (r : Result Coherence Refusal) (h : List ℤ) → Signs.Ends g.d (glued_cells g) (length signs) r h → SidesOf g (sides_as r)
  sides-end r h (signs-crowded x) = absurd (w.sound.free x)
  sides-end r h (one_sided f n) = one n
  sides-end r h (signs_short f σ o l) = absurd (let x : ⊥ = omega (arith, cells-corners g w.sound.taken) in x)
  sides-end r h (signed f σ o l) = two σ o.coherent

  pub sides-are : (r : Result Coherence Refusal) (signs' : List ℤ) (keys' rows' spare' counts' : List ℕ) → Orientation g.d ws r signs signs' keys keys' rows rows' spare spare' counts counts' → SidesOf g (sides_as r)
  sides-are r signs' keys' rows' spare' counts' t =
      sides-end r t.handed
      (subst (λ (l : List ℕ). Signs.Ends g.d (Complex.cells_of g.d l) (length signs) r t.handed) w.same
      (comes-end Err [] (answer_of g.d ws) (record_need (length ws)) (lengths keys rows spare counts) (Signs.Ends g.d (Complex.cells_of g.d ws) (length signs)) checked room t.comes))
    where
      checked : answer_of g.d ws ≡ fine
      checked = rw w.same (words-fine g w.sound.taken)

      room : Roomy (record_need (length ws)) (lengths keys rows spare counts)
      room = records-roomy g w.sound.taken (length ws) (ap length w.same ∙ words_long g w.sound.taken) keys rows spare counts lk lr ls ln

-- ---- the six things
pub told-all : (g : Grid) (ordered : Bool) {cells vertices edges border sides : ℕ} → cells ≡ length (glued_cells g) → vertices ≡ vertices_of g → edges ≡ length (edges_of (glued_cells g)) → border ≡ length (border_of g.d (glued_cells g)) → SidesOf g sides →
    Tells g ordered (record { cells = cells; vertices = vertices; edges = edges; border = border; sides = sides; ordered = ordered })
told-all g ordered {sides = sides} c v e b s = record { sides = sides; right = s; same = rw (c, v, e, b) }

-- ---- what is told, by what the triangulation says
module _ (g : Grid) where
  ordered-is : (r : Result Triangulated Refusal) (m : ℕ) → Triangulates g r → r ≡ (Ok (Ordered m)) → Sound g × HandsOut g × (m ≡ length (glued_cells g))
  ordered-is r m (Work.refused e) q = let z : ◌≡◌ {A = ℕ} 0 1 = cc in absurd (omega arith)
  ordered-is r m (Work.crowded e x) q = let z : ◌≡◌ {A = ℕ} 0 1 = cc in absurd (omega arith)
  ordered-is r m (Work.ordered s o) q = (s, o, cc)
  ordered-is r m (Work.unordered s o) q = let z : ◌≡◌ {A = ℕ} 0 1 = cc in absurd (omega arith)

  unordered-is : (r : Result Triangulated Refusal) (m : ℕ) → Triangulates g r → r ≡ (Ok (Unordered m)) → Sound g × (HandsOut g → ⊥) × (m ≡ length (glued_cells g))
  unordered-is r m (Work.refused e) q = let z : ◌≡◌ {A = ℕ} 0 1 = cc in absurd (omega arith)
  unordered-is r m (Work.crowded e x) q = let z : ◌≡◌ {A = ℕ} 0 1 = cc in absurd (omega arith)
  unordered-is r m (Work.ordered s o) q = let z : ◌≡◌ {A = ℕ} 0 1 = cc in absurd (omega arith)
  unordered-is r m (Work.unordered s o) q = (s, o, cc)

  pub ordered-cells : (r : Result Triangulated Refusal) (m : ℕ) → Triangulates g r → r ≡ (Ok (Ordered m)) → HasCells g m
  ordered-cells r m t q = let w = ordered-is r m t q in record { sound = w.0; same = w.2 }

  pub unordered-cells : (r : Result Triangulated Refusal) (m : ℕ) → Triangulates g r → r ≡ (Ok (Unordered m)) → HasCells g m
  unordered-cells r m t q = let w = unordered-is r m t q in record { sound = w.0; same = w.2 }

  pub sums-refused : (r : Result Triangulated Refusal) (why : Refusal) → Triangulates g r → r ≡ Err why → SumsOf g (Err why)
  sums-refused r why (Work.refused {why = why2} e) f = let a : why2 ≡ why = cc in Promise.refused (e ∙ ap (λ (x : Refusal). Err x) a)
  sums-refused r why (Work.crowded e x) f = let a : CrowdedFacet ≡ why = cc in subst (λ (x : Refusal). SumsOf g (Err x)) a (Promise.crowded e x)
  sums-refused r why (Work.ordered s o) f = let z : ◌≡◌ {A = ℕ} 0 1 = cc in absurd (omega arith)
  sums-refused r why (Work.unordered s o) f = let z : ◌≡◌ {A = ℕ} 0 1 = cc in absurd (omega arith)

  pub sums-ordered : (r : Result Triangulated Refusal) (m : ℕ) (s : Summary) → Triangulates g r → r ≡ (Ok (Ordered m)) → Tells g true s → SumsOf g (Ok s)
  sums-ordered r m s t q e = let w = ordered-is r m t q in subst (λ (x : Summary). SumsOf g (Ok x)) (sym e.same) (Promise.ordered w.0 e.right w.1)

  pub sums-unordered : (r : Result Triangulated Refusal) (m : ℕ) (s : Summary) → Triangulates g r → r ≡ (Ok (Unordered m)) → Tells g false s → SumsOf g (Ok s)
  sums-unordered r m s t q e = let w = unordered-is r m t q in subst (λ (x : Summary). SumsOf g (Ok x)) (sym e.same) (Promise.unordered w.0 e.right w.1)
