-- The work on a grid that is taken, step by step: what each call asks follows from what the calls before it gave. Assumes nothing.
use Rattle.refusal.specs.declared.Refusal.{Refusal}
use Rattle.refusal.specs.declared.Refusal.TheVariants.{CrowdedFacet, TooShort, VertexTwice}
use Rattle.refusal.specs.Says.{Answer, Counted, fine}
use Rattle.std.specs.Prelude.{Err, Ok}
use mathlib.Core.Bool.{Bool, true, false, false≢true}
use mathlib.Core.List.{List, [], ◌∷◌, ◌++◌}
use mathlib.Core.Path.{◌≡◌, refl, sym, ap, ◌∙◌, subst}
use mathlib.Core.Logic.{⊎_elim}
use Prim.Native.Nat.{ℕ, zero, suc, ◌+◌, ◌*◌, ◌/◌, ◌<◌, ◌≤◌}
use native.Mathlib.Nat.{mul_comm, mul-zero, suc-mul, mul-le-mul_right}
use native.Mathlib.Omega.{arith}
use lib.ListN.{length, take, drop}
use lib.Seq.{length-take-le}
use lib.Dec.{ltb}
use borrow.Author.Tests.{lt-ltb, le-ltb}
use Rattle.refusal.specs.Refuse.{refuse}
use Rattle.refusal.specs.Limits.{most_vertices}
use Rattle.lists.specs.Rows.{cut}
use Rattle.lists.proofs.Rows.{cut-length}
use Rattle.lists.proofs.Laws.{back-length}
use Rattle.complex.specs.Check.{answer_of, Passed}
use Rattle.complex.specs.Room.{key_room}
use Rattle.complex.specs.Facets.{Crowded, slots}
use Rattle.complex_cells.specs.WorkMade.{Made}
use Rattle.complex_mates.specs.Table.{MateTable, Meeting}
use Rattle.complex_mates.proofs.Mated.{not-crowded}
use Rattle.quotient.specs.declared.Grid.{Grid}
use Rattle.quotient.specs.Shape.{check_of, cell_count}
use Rattle.quotient.specs.Points.{points_of}
use Rattle.quotient.proofs.Laws.{lt-or-ge}
use Rattle.grid_chained.specs.Shape.{shape_of, need_of}
use Rattle.grid_chained.specs.Classing.{at}
use Rattle.grid_chained.proofs.Taken.{high, points-need}
use Rattle.grid_chained.proofs.Counts.{few-taken}
use Rattle.grid_chained.proofs.Determined.{classes-one}
use Rattle.grid_chained_words.specs.Words.{flat_by}
use Rattle.grid_chained_words.specs.WorkWords.{Laid, Sorting}
use Rattle.grid_chained_words.proofs.Listed.{words_long}
use Rattle.grid_chained_words.proofs.Checked.{by-pass, by_count, only-four}
use Rattle.grid_chained_mesh.specs.Words.{ClassWords, first_twice, Apart, Crowd, WordsEnd}
use Rattle.grid_chained_mesh.specs.Words as Words
use Rattle.grid_chained_mesh.specs.Work.{Working, Said, Standing, Handed, Worked}
use Rattle.grid_chained_mesh.specs.Work as Work

room-least : (d n : ℕ) → n ≤ key_room d n
room-least zero n = omega arith
room-least (suc d) n = omega (arith, suc-mul d n)

room-rows : (d m n : ℕ) → m * suc d ≤ n → m * slots d * d ≤ key_room d n
room-rows zero m n h = omega (arith, mul-zero (m * 0))
room-rows (suc d) m n h = omega (arith, mul-le-mul_right (suc d) h, mul_comm n (suc d))

-- the first part of two, by its length
front-part : (xs ys : List ℕ) → take (length xs) (xs ++ ys) ≡ xs
front-part [] ys = refl
front-part (x ∷ xs) ys = ap (λ (l : List ℕ). x ∷ l) (front-part xs ys)

-- what a check says, as the call says it
abbrev to_counted : Answer → Counted
to_counted (Ok _) = Ok 0
to_counted (Err why) = Err why

abbrev is_fine : Answer → Bool
is_fine (Ok _) = true
is_fine (Err why) = false

-- ---- the words of a grid: they are one list, and the first mode takes the grid too
module _ (g : Grid) (allowed : shape_of g ≡ fine) where
  module _ (ws : List ℕ) (w : ClassWords g ws) where
    pub words-taken : check_of g ≡ fine
    words-taken = few-taken g allowed (at w.numbers) w.many w.classes.classing w.few

    pub corners : length ws ≡ need_of g
    corners = ap length w.words ∙ words_long g words-taken (at w.numbers)

    pub count-is : (len : ℕ) → len ≡ need_of g → len / (g.d + 1) ≡ cell_count g
    count-is len e = ap (λ (n : ℕ). n / (g.d + 1)) (e ∙ sym (words_long g words-taken (at w.numbers))) ∙ by_count g words-taken (at w.numbers) w.many w.classes.classing w.few

  -- no word names a class twice: the words pass the checks of a cell list
  pub apart-pass : (ws : List ℕ) → Apart g ws → Passed g.d ws
  apart-pass ws a =
      let w = a.of in
      subst (λ (l : List ℕ). Passed g.d l) (sym w.words)
      (by-pass g (words-taken ws w) (at w.numbers) w.many w.classes.classing w.few (subst (λ (l : List ℕ). cell_count g ≤ first_twice g l) w.words a.none))

  -- ---- what is said of the words
  module _ (ws : List ℕ) (w : ClassWords g ws) where
    first-four : answer_of g.d ws ≡ refuse (ltb (first_twice g ws) (cell_count g)) (VertexTwice (first_twice g ws)) fine
    first-four =
        subst (λ (l : List ℕ). answer_of g.d l ≡ refuse (ltb (first_twice g l) (cell_count g)) (VertexTwice (first_twice g l)) fine) (sym w.words)
        (only-four g (words-taken ws w) (at w.numbers) w.many w.classes.classing w.few)

    pub said : (r : Answer) → r ≡ answer_of g.d ws → Said g ws r
    said r e =
        let test : Bool → Answer = λ b. refuse b (VertexTwice (first_twice g ws)) fine in
        ⊎_elim
        (λ (l : first_twice g ws < cell_count g). subst (λ (a : Answer). Said g ws a) (sym (e ∙ first-four ∙ ap test (lt-ltb (first_twice g ws) (cell_count g) l))) (Work.twice w l))
        (λ (l : cell_count g ≤ first_twice g ws). subst (λ (a : Answer). Said g ws a) (sym (e ∙ first-four ∙ ap test (le-ltb (first_twice g ws) (cell_count g) l))) (Work.fine (record { of = w; none = l })))
        (lt-or-ge (first_twice g ws) (cell_count g))

-- room for the points
pub points-fit : (g : Grid) → shape_of g ≡ fine → (n : ℕ) (room : List ℕ) → n ≡ points_of g → length room ≡ need_of g → n ≤ length room
points-fit g allowed n room e h = omega (arith, points-need g allowed)

-- words that were laid are the grid's, where their classes are few enough
pub laid-words : (g : Grid) (m : ℕ) (ws : List ℕ) → Laid g m ws → m ≤ most_vertices → ClassWords g ws
laid-words g m ws l few = record { numbers = l.numbers; many = m; classes = l.classes; few = few; words = l.written few }

-- a grid has one list of words
pub words-one : (g : Grid) (xs ys : List ℕ) → ClassWords g xs → ClassWords g ys → xs ≡ ys
words-one g xs ys a b =
    a.words ∙ ap (λ (l : List ℕ). flat_by g (at l)) (classes-one g a.numbers b.numbers a.many b.many a.classes b.classes).0 ∙ sym b.words

pub handed : (g : Grid) (m : ℕ) (list : List ℕ) → Laid g m list → Handed g list
handed g m list l ws w =
    let e : m ≡ w.many = (classes-one g l.numbers w.numbers m w.many l.classes w.classes).1 in
    let f : w.many ≤ most_vertices = w.few in
    words-one g list ws (laid-words g m list l (omega arith)) w

-- where nothing is said against the words, none names a class twice
pub said-fine : (g : Grid) (ws : List ℕ) (r : Answer) → Said g ws r → r ≡ fine → Apart g ws
said-fine g ws r (Work.many numbers m k l) f = absurd (false≢true (ap is_fine f))
said-fine g ws r (Work.twice w l) f = absurd (false≢true (ap is_fine f))
said-fine g ws r (Work.fine a) f = a

-- ---- the cells of the words that stand at the front of the keys
module _ (g : Grid) (keys rows spare counts : List ℕ) (w : Working g keys rows spare counts) where
  pub keys-room : need_of g ≤ length keys
  keys-room = omega (arith, w.keys_long, room-least g.d (need_of g))

  pub sorting : (len : ℕ) → len ≡ need_of g → Apart g (take (need_of g) keys) → Sorting g.d len keys rows spare counts
  sorting len e a =
      record {
        front = omega (arith, keys-room);
        passed = subst (λ (n : ℕ). Passed g.d (take n keys)) (sym e) (apart-pass g w.taken (take (need_of g) keys) a);
        rows_long = omega (arith, w.rows_long);
        spare_long = omega (arith, w.spare_long);
        counts_long = omega (arith, w.counts_long);
      }

  module _ (len : ℕ) (e : len ≡ need_of g) (m : ℕ) (keys' rows' spare' counts' : List ℕ) (lk : length keys' ≡ length keys) (lr : length rows' ≡ length rows) (ls : length spare' ≡ length spare) (lc : length counts' ≡ length counts) (a : Made g.d (take len keys) m rows') where
    front_long : length (take len keys) ≡ need_of g
    front_long = length-take-le len keys (omega (arith, keys-room)) ∙ e

    pub meeting : Meeting g.d m len keys' rows' spare' counts'
    meeting =
        record {
          cells = a.cells;
          rows_long = omega (arith, a.most, w.rows_long, front_long);
          keys_long = omega (arith, room-rows g.d m (need_of g) (omega (arith, a.most, front_long)), w.keys_long);
          spare_long = omega (arith, a.most, w.spare_long, front_long);
          counts_long = omega (arith, a.most, w.counts_long, front_long);
          buckets = omega (arith, w.counts_long);
          few = omega (arith, a.most, a.corners);
          small = omega (arith, high g w.taken);
          below = λ i h. omega (arith, a.below i h, front_long);
        }

    pub crowd : Crowded g.d (cut (suc g.d) m rows') → Crowd g (take (need_of g) keys)
    crowd x = subst (λ (n : ℕ). Crowd g (take n keys)) e (subst (λ (cs : List (List ℕ)). Crowded g.d cs) a.same x)

    pub no-crowd : (rows'' : List ℕ) → MateTable g.d (cut (suc g.d) m rows') rows'' → Crowd g (take (need_of g) keys) → ⊥
    no-crowd rows'' t x =
        not-crowded g.d m (cut (suc g.d) m rows') (cut-length (suc g.d) m rows') rows'' t (omega (arith, a.most, a.corners))
        (subst (λ (cs : List (List ℕ)). Crowded g.d cs) (sym a.same) (subst (λ (n : ℕ). Crowd g (take n keys)) (sym e) x))

  -- ---- after the words are checked, with `ws` at the front of the keys
  module _ (len : ℕ) (e : len ≡ need_of g) (ws rows' : List ℕ) (lw : length ws ≡ length (take len keys)) (lr : length rows' ≡ length rows) where
    ws-long : length ws ≡ len
    ws-long = lw ∙ length-take-le len keys (omega (arith, keys-room))

    front-is : take (need_of g) (ws ++ drop len keys) ≡ ws
    front-is = ap (λ (n : ℕ). take n (ws ++ drop len keys)) (sym (ws-long ∙ e)) ∙ front-part ws (drop len keys)

    back_long : length (ws ++ drop len keys) ≡ length keys
    back_long = back-length len keys ws lw

    pub standing : (r : Answer) → Said g ws r → r ≡ fine → Standing g (ws ++ drop len keys) rows' spare counts
    standing r s f =
        record {
          room =
              record {
                taken = w.taken;
                keys_long = back_long ∙ w.keys_long;
                rows_long = lr ∙ w.rows_long;
                spare_long = w.spare_long;
                counts_long = w.counts_long;
              };
          apart = subst (λ (l : List ℕ). Apart g l) (sym front-is) (said-fine g ws r s f);
        }

    pub free_of : (Crowd g (take (need_of g) (ws ++ drop len keys)) → ⊥) → Crowd g ws → ⊥
    free_of f x = f (subst (λ (l : List ℕ). Crowd g l) (sym front-is) x)

    pub crowd-of : Crowd g (take (need_of g) (ws ++ drop len keys)) → Crowd g ws
    crowd-of = subst (λ (l : List ℕ). Crowd g l) front-is

-- ---- the ways out of the work
module _ (g : Grid) (out : List ℕ) where
  -- 6 and 4
  pub worked-said : (ws : List ℕ) (r : Answer) (why : Refusal) → Said g ws r → r ≡ Err why → Worked g (Err why) out out
  worked-said ws r why s e = subst (λ (a : Answer). Worked g (to_counted a) out out) e (by_end r s (λ f. false≢true (ap is_fine (sym e ∙ f))))
    where
      by_end : (r : Answer) → Said g ws r → (r ≡ fine → ⊥) → Worked g (to_counted r) out out
      by_end r (Work.many numbers m k l) f = record { handed = []; ends = Words.many numbers m k l; result = refl }
      by_end r (Work.twice w l) f = record { handed = []; ends = Words.twice ws w l; result = refl }
      by_end r (Work.fine a) f = absurd (f refl)

  module _ (allowed : shape_of g ≡ fine) (ws : List ℕ) (a : Apart g ws) where
    -- 7
    pub worked-crowded : Crowd g ws → Worked g (Err CrowdedFacet) out out
    worked-crowded x = record { handed = []; ends = Words.crowded ws a x; result = refl }

    module _ (free : Crowd g ws → ⊥) (len : ℕ) (e : len ≡ need_of g) where
      ws-corners : length ws ≡ len
      ws-corners = corners g allowed ws a.of ∙ sym e

      -- 12
      pub worked-short : length out < len → Worked g (Err TooShort) out out
      worked-short h = record { handed = []; ends = Words.short ws a free (omega (arith, ws-corners)); result = refl }

      -- the words
      pub worked-written : (part : List ℕ) → len ≤ length out → Handed g part → Worked g (Ok (len / (g.d + 1))) out (part ++ drop len out)
      worked-written part h p =
          record {
            handed = ws;
            ends = subst (λ (n : ℕ). WordsEnd g (length out) (Ok n) ws) (sym (count-is g allowed ws a.of len e)) (Words.written ws a free (omega (arith, ws-corners)));
            result = ap (λ (l : List ℕ). l ++ drop len out) (p ws a.of) ∙ ap (λ (n : ℕ). ws ++ drop n out) (sym ws-corners);
          }
