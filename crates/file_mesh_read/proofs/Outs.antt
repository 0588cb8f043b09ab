-- The ways out of the call. Assumes nothing.
use Rattle.refusal.specs.declared.Refusal.{Refusal}
use Rattle.refusal.specs.declared.Refusal.TheVariants.{BadDimension, TooManyCells, CrowdedFacet, TooShort}
use Rattle.refusal.specs.Says.{Answer, fine}
use Rattle.std.specs.Prelude.{Err, Result}
use mathlib.Core.Path.{◌≡◌, refl, sym, ap, subst, ◌∙◌}
use mathlib.Core.List.{List}
use Prim.Native.Nat.{ℕ, ◌+◌, ◌*◌, ◌/◌, ◌%◌, ◌≤◌, ◌<◌}
use native.Mathlib.Nat.{mul-mod_left, div-eq_of_eq-mul_left, mul-le-mul}
use native.Mathlib.Omega.{arith}
use lib.ListN.{length}
use borrow.Author.Tests.{lt-ltb, le-ltb, eq-eqb, ne_eqb}
use Rattle.refusal.specs.Limits.{most_dimension, most_cells, row_most, most_corners}
use Rattle.refusal.specs.declared.Room.{Room}
use Rattle.refusal.specs.Lent.{untouched, lengths}
use Rattle.refusal.proofs.Chain.{fine-refused, refused-same}
use Rattle.refusal.specs.Call.{Comes, refused, cramped, ended}
use Rattle.complex.specs.Check.{answer_of}
use Rattle.complex.specs.Cells.{cells_of}
use Rattle.complex.specs.Facets.{Crowded}
use Rattle.complex.specs.Room.{need_of}
use Rattle.complex_sound.specs.Promise.{Facets, free, Checked}
use Rattle.complex_sound.specs.Promise as Sound
use Rattle.file_mesh.specs.Mesh.{Mesh}
use Rattle.file_mesh.specs.Read.{read_file}
use Rattle.file_mesh_read.specs.declared.Reading.{Reading}
use Rattle.file_mesh_read.specs.Promise.{mesh_in, refused_in, Lists, none, Gives, crowded, MeshRead}
use Rattle.file_mesh_read.specs.Work.{words_in, Handing}
use Rattle.file_mesh_read.proofs.Given.{FileGives}

-- ---- the checks before the words are listed

pub answer-dimension : (d : ℕ) (ws : List ℕ) → most_dimension < d → answer_of d ws ≡ Err BadDimension
unfolding answer_of
answer-dimension d ws h = rw (lt-ltb most_dimension d h)

some_words : (d count n : ℕ) → n ≡ count * (d + 1) → most_cells < count → n ≡ 0 → ⊥
some_words d count n e h z =
    let g = mul-le-mul {n₁ = 1} {m₁ = 1} {n₂ = count} {m₂ = d + 1} (omega arith) (omega arith) in
    omega (arith, g)

pub answer-many : (d count : ℕ) (ws : List ℕ) → d ≤ most_dimension → length ws ≡ count * (d + 1) → most_cells < count → answer_of d ws ≡ Err TooManyCells
unfolding answer_of
answer-many d count ws h e g =
    let m : length ws % (d + 1) ≡ 0 = ap (λ (x : ℕ). x % (d + 1)) e ∙ mul-mod_left count (d + 1) in
    let q : length ws / (d + 1) ≡ count = div-eq_of_eq-mul_left {n = d + 1} {m = length ws} {k = count} (omega arith) e in
    rw (le-ltb most_dimension d h, ne_eqb (length ws) 0 (some_words d count (length ws) e g), eq-eqb (length ws % (d + 1)) 0 m, lt-ltb most_cells (length ws / (d + 1)) (omega (arith, q)))

-- ---- the ways out

module _ (bs words births pairs keys rows spare counts : List ℕ) where
  abbrev m : Mesh
  m = mesh_in (read_file bs)

  abbrev given : Lists
  given = record { words = words; births = births; pairs = pairs }

  -- refused by the bytes or by the checks of the cells: nothing is touched
  pub out-early : (why : Refusal) → refused_in (read_file bs) ≡ Err why → MeshRead bs (Err why) words words births births pairs pairs keys keys rows rows spare spare counts counts
  out-early why e =
      record {
        handed = none;
        used = untouched;
        comes = refused e;
        room = record { of_keys = refl; of_rows = refl; of_spare = refl; of_counts = refl };
        of_words = refl;
        of_births = refl;
        of_pairs = refl;
      }

  module _ (q : refused_in (read_file bs) ≡ answer_of m.d m.words) (need have : Room) where
    lift : (r : Answer) (u : Unit {0}) (used : Room) (why : Refusal) → Comes Err (tt {0}) (answer_of m.d m.words) need have (Facets m.d (cells_of m.d m.words)) r u used → r ≡ Err why →
        Comes Err none (refused_in (read_file bs)) need have (Gives m given) (Err why) none used
    lift r u used why (refused e) f = refused (q ∙ e ∙ f)
    lift r u used why (cramped e g) f = rw (sym (refused-same TooShort why f)) (cramped (q ∙ e) g)
    lift r u used why (ended e g (Sound.crowded x)) f = rw (sym (refused-same CrowdedFacet why f)) (ended (q ∙ e) g (crowded x))
    lift r u used why (ended e g (free x)) f = absurd (fine-refused why (sym f))

    finish : (r : Answer) (u : Unit {0}) (used : Room) → Comes Err (tt {0}) (answer_of m.d m.words) need have (Facets m.d (cells_of m.d m.words)) r u used → r ≡ fine → (s : Result Reading Refusal) (h : Lists) →
        ((Crowded m.d (cells_of m.d m.words) → ⊥) → Gives m given s h) → Comes Err none (refused_in (read_file bs)) need have (Gives m given) s h used
    finish r u used (refused {why = why} e) f s h x = absurd (fine-refused why f)
    finish r u used (cramped e g) f s h x = absurd (fine-refused TooShort f)
    finish r u used (ended e g (Sound.crowded y)) f s h x = absurd (fine-refused CrowdedFacet f)
    finish r u used (ended e g (free y)) f s h x = ended (q ∙ e) g (x y)

  module _ (q : refused_in (read_file bs) ≡ answer_of m.d m.words) (r : Answer) (keys' rows' spare' counts' : List ℕ) (k : Checked m.d m.words r keys keys' rows rows' spare spare' counts counts') where
    -- refused by the checks of the cells, for lack of room, or by 7
    pub out-refused : (why : Refusal) → r ≡ Err why → MeshRead bs (Err why) words words births births pairs pairs keys keys' rows rows' spare spare' counts counts'
    out-refused why e =
        record {
          handed = none;
          used = k.used;
          comes = lift q (need_of m.d (length m.words)) (lengths keys rows spare counts) r (tt {0}) k.used why k.comes e;
          room = k.room;
          of_words = refl;
          of_births = refl;
          of_pairs = refl;
        }

    -- the lists are handed out, or a result list is too short
    pub out-handed : r ≡ fine → (s : Result Reading Refusal) (words' births' pairs' : List ℕ) → Handing m s words words' births births' pairs pairs' → MeshRead bs s words words' births births' pairs pairs' keys keys' rows rows' spare spare' counts counts'
    out-handed e s words' births' pairs' h =
        record {
          handed = h.handed;
          used = k.used;
          comes = finish q (need_of m.d (length m.words)) (lengths keys rows spare counts) r (tt {0}) k.used k.comes e s h.handed h.ends;
          room = k.room;
          of_words = h.of_words;
          of_births = h.of_births;
          of_pairs = h.of_pairs;
        }

-- ---- the words of a file that was scanned

module _ (bs : List ℕ) (m : Mesh) (d count many weights : ℕ) (f : FileGives bs m d count many weights) where
  pub words-room : 10 + count * (6 + (d + 1) * 4) ≤ length bs
  words-room =
      let e : count * (6 + (d + 1) * 4) ≡ count * (10 + 4 * d) = ap (λ (x : ℕ). count * x) {x = 6 + (d + 1) * 4} {y = 10 + 4 * d} (omega arith) in
      omega (arith, f.words_inside)

  pub high : most_dimension < d → answer_of m.d m.words ≡ Err BadDimension
  high h = answer-dimension m.d m.words (omega (arith, f.dimension))

  pub crowd : d ≤ most_dimension → most_cells < count → answer_of m.d m.words ≡ Err TooManyCells
  crowd h g = answer-many m.d count m.words (omega (arith, f.dimension)) (f.cells ∙ ap (λ (x : ℕ). count * (x + 1)) (sym f.dimension)) g

  module _ (ys : List ℕ) (e : ys ≡ words_in (d + 1) count 10 bs) where
    pub words-here : ys ≡ m.words
    words-here = e ∙ sym f.words

    pub checked-here : (r : Answer) (keys keys' rows rows' spare spare' counts counts' : List ℕ) → Checked d ys r keys keys' rows rows' spare spare' counts counts' → Checked m.d m.words r keys keys' rows rows' spare spare' counts counts'
    checked-here r keys keys' rows rows' spare spare' counts counts' k =
        subst (λ (x : ℕ). Checked x m.words r keys keys' rows rows' spare spare' counts counts') (sym f.dimension)
        (subst (λ (x : List ℕ). Checked d x r keys keys' rows rows' spare spare' counts counts') words-here k)

pub few-corners : (d count : ℕ) → d ≤ most_dimension → count ≤ most_cells → count * (d + 1) ≤ most_corners
few-corners d count h g = mul-le-mul {n₁ = count} {m₁ = d + 1} {n₂ = most_cells} {m₂ = row_most} g (omega arith)
