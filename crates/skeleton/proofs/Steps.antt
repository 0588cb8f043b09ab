-- The work of the calls, step by step: what each inner call asks follows from what the calls before it gave. Assumes nothing.
use Rattle.refusal.specs.declared.Refusal.TheVariants.{CrowdedFacet, TooShort}
use Rattle.refusal.specs.Says.{Counted}
use Rattle.std.specs.Prelude.{Err, Ok, Option, Some, None}
use mathlib.Core.Bool.{Bool, true, false}
use mathlib.Core.List.{List, [], ◌++◌}
use mathlib.Core.Path.{◌≡◌, refl, sym, ap, ◌∙◌, subst}
use Prim.Native.Nat.{ℕ, zero, suc, ◌+◌, ◌*◌, ◌<◌, ◌≤◌}
use native.Mathlib.Nat.{mul_comm, mul-zero, suc-mul, mul-suc, mul-le-mul_left, mul-le-mul_right}
use native.Mathlib.Numerals.{add-one}
use native.Mathlib.Omega.{arith}
use lib.ListN.{length, take, drop}
use Rattle.refusal.specs.declared.Room.{Room}
use Rattle.refusal.specs.Lent.{lengths, Roomy}
use Rattle.lists.specs.Rows.{cut, flat}
use Rattle.lists.proofs.Flat.{flat-cut}
use Rattle.lists.proofs.Rows.{cut-length}
use Rattle.sorting.specs.Gather.{rows_of}
use Rattle.sorting.proofs.Rows.{rows_of-pos}
use Rattle.refusal.specs.Limits.{most_dimension, many_corners}
use Rattle.complex.specs.Room.{key_room, need_of}
use Rattle.complex.specs.Cells.{cells_of}
use Rattle.complex.specs.Facets.{Crowded, Cells, slots}
use Rattle.complex.specs.Skeleton.{edges_of, facets_of, border_of}
use Rattle.complex_cells.specs.WorkMade.{Making, Made}
use Rattle.complex_cells.specs.WorkNamed.{Naming, Named}
use Rattle.complex_mates.specs.Table.{MateTable, Meeting}
use Rattle.complex_mates.proofs.Mated.{not-crowded}
use Rattle.complex_mates.proofs.Meeting.{slots-most}
use Rattle.complex_cells.proofs.Named.{named_flat, named-many}
use Rattle.complex_edges.specs.WorkPairs.{Edging}
use Rattle.complex_facets.specs.WorkClasses.{Pass, Found, lone_rows}
use Rattle.complex_facets.proofs.Border.{border-named}
use Rattle.complex_facets.proofs.Tabling.{fours-length, table_is}
use Rattle.complex_facets.proofs.Recording.{fives-length, records-are}
use Rattle.skeleton.specs.Promise.{Gives, short, listed, GivesBoth, words_short, table_short, both_listed, crowded, rest}
use Rattle.skeleton.specs.declared.Beside.{Beside}
use Rattle.skeleton.specs.declared.Beside.TheVariants.{Places, Signs}
use Rattle.skeleton.specs.Parts.{edge_need, width_of, beside_for, beside_as}
use Rattle.skeleton.specs.Work.{Working, Sound, Handed, Worked, Besides, WorkedBoth}

-- ---- room
pub room-least : (d n : ℕ) → n ≤ key_room d n
room-least zero n = omega arith
room-least (suc d) n = omega (arith, suc-mul d n)

pub room-rows : (d m n : ℕ) → m * suc d ≤ n → m * slots d * d ≤ key_room d n
room-rows zero m n h = omega (arith, mul-zero (m * 0))
room-rows (suc d) m n h = omega (arith, mul-le-mul_right (suc d) h, mul_comm n (suc d))

pub room-pairs : (d m n : ℕ) → m * suc d ≤ n → m * d * d ≤ key_room d n
room-pairs zero m n h = omega (arith, mul-zero (m * 0))
room-pairs (suc d) m n h =
    let l : m * suc d ≤ n = omega (arith, mul-suc m (suc d)) in
    omega (arith, mul-le-mul_right (suc d) l, mul_comm n (suc d))

pub room_most : (d n : ℕ) → d ≤ 3 → key_room d n ≤ 3 * n
room_most zero n h = omega arith
room_most (suc d) n h = mul-le-mul_right n h

-- the need of `edges` is no less than that of the others
pub wider : (d n : ℕ) (have : Room) → Roomy (edge_need d n) have → Roomy (need_of d n) have
wider d n have h =
    let l = room-least d n in
    record {
      in_keys = omega (arith, h.in_keys);
      in_rows = omega (arith, h.in_rows);
      in_spare = omega (arith, h.in_spare);
      in_counts = omega (arith, h.in_counts);
    }

-- lists of the same lengths have the same room
pub still : (need : Room) (d : ℕ) (ws keys rows spare counts keys' rows' spare' counts' : List ℕ) → length keys' ≡ length keys → length rows' ≡ length rows → length spare' ≡ length spare → length counts' ≡ length counts → Working need d ws keys rows spare counts → Working need d ws keys' rows' spare' counts'
still need d ws keys rows spare counts keys' rows' spare' counts' lk lr ls lc w =
    record {
      passed = w.passed;
      room =
          record {
            in_keys = omega (arith, w.room.in_keys);
            in_rows = omega (arith, w.room.in_rows);
            in_spare = omega (arith, w.room.in_spare);
            in_counts = omega (arith, w.room.in_counts);
          };
    }

-- ---- handing out
pub handed-short : (ws : List (List ℕ)) (out : List ℕ) → length out < length (flat ws) → Handed ws (Err TooShort) out out
handed-short ws out h = record { handed = []; gives = short h; result = refl }

pub handed-all : (ws : List (List ℕ)) (m : ℕ) (out out' : List ℕ) → length ws ≡ m → length (flat ws) ≤ length out → out' ≡ flat ws ++ drop (length (flat ws)) out → Handed ws (Ok m) out out'
handed-all ws m out out' e h q = record { handed = flat ws; gives = subst (λ (n : ℕ). Gives ws (length out) (Ok n) (flat ws)) e (listed h); result = q }

-- a copy of the flat list, and the rest of the result list
pub handed-copy : (ws : List (List ℕ)) (m : ℕ) (from out part : List ℕ) → flat ws ≡ from → length ws ≡ m → length from ≤ length out → part ≡ from → Handed ws (Ok m) out (part ++ drop (length from) out)
handed-copy ws m from out part f e h p = handed-all ws m out (part ++ drop (length from) out) e (rw f h) (rw (f, p))

module _ (stride m : ℕ) (keys list : List ℕ) (a : Naming stride m keys list) (ws : List (List ℕ)) (f : flat ws ≡ rows_of keys stride (take m list)) where
  rows_long : length (flat ws) ≡ m * stride
  rows_long = ap length f ∙ rows_of-pos keys stride list m m a.inside (omega arith) a.long

  pub handed-less : (out : List ℕ) → length out < m * stride → Handed ws (Err TooShort) out out
  handed-less out h = handed-short ws out (omega (arith, rows_long))

  pub handed-rows : (out out' : List ℕ) → length ws ≡ m → m * stride ≤ length out → out' ≡ rows_of keys stride (take m list) ++ drop (m * stride) out → Handed ws (Ok m) out out'
  handed-rows out out' e h q = handed-all ws m out out' e (omega (arith, rows_long)) (rw (rows_long, f) q)

-- ---- the cells
module _ (d : ℕ) (ws keys rows spare counts : List ℕ) (w : Working (need_of d (length ws)) d ws keys rows spare counts) where
  pub making : Making d ws keys rows spare counts
  making =
      record {
        passed = w.passed;
        keys_long = omega (arith, w.room.in_keys, room-least d (length ws));
        rows_long = w.room.in_rows;
        spare_long = w.room.in_spare;
        counts_long = w.room.in_counts;
      }

  module _ (m : ℕ) (keys' rows' spare' counts' : List ℕ) (lk : length keys' ≡ length keys) (lr : length rows' ≡ length rows) (ls : length spare' ≡ length spare) (lc : length counts' ≡ length counts) (a : Made d ws m rows') where
    pub meeting : Meeting d m (length ws) keys' rows' spare' counts'
    meeting =
        record {
          cells = a.cells;
          rows_long = omega (arith, a.most, w.room.in_rows);
          keys_long = omega (arith, room-rows d m (length ws) a.most, w.room.in_keys);
          spare_long = omega (arith, a.most, w.room.in_spare);
          counts_long = omega (arith, a.most, w.room.in_counts);
          buckets = omega (arith, w.room.in_counts);
          few = omega (arith, a.most, a.corners);
          small = omega (arith, w.passed.small);
          below = a.below;
        }

    -- 7
    pub sound-is : (ok : Bool) (mates : List ℕ) → (ok ≡ true → MateTable d (cut (suc d) m rows') mates) → (ok ≡ false → Crowded d (cut (suc d) m rows')) → Sound d ws ok
    sound-is ok mates good bad =
        record {
          yes = λ e x. not-crowded d m (cut (suc d) m rows') (cut-length (suc d) m rows') mates (good e) (omega (arith, a.most, a.corners)) (subst (λ (cs : List (List ℕ)). Crowded d cs) (sym a.same) x);
          no = λ e. subst (λ (cs : List (List ℕ)). Crowded d cs) a.same (bad e);
        }

pub cells_fit : (d : ℕ) (ws : List ℕ) (m : ℕ) (rows : List ℕ) → Made d ws m rows → m < 4294967296
cells_fit d ws m rows a = omega (arith, a.most, a.corners, mul-suc m d)

pub flat-fit : (d : ℕ) (ws : List ℕ) (m : ℕ) (rows : List ℕ) → Made d ws m rows → m * (d + 1) ≤ length ws
flat-fit d ws m rows a = rw (add-one d) a.most

pub cells-many : (d : ℕ) (ws : List ℕ) (m : ℕ) (rows : List ℕ) → Made d ws m rows → length (cells_of d ws) ≡ m
cells-many d ws m rows a = ap length (sym a.same) ∙ cut-length (suc d) m rows

pub cells-flat : (d : ℕ) (ws : List ℕ) (m : ℕ) (rows : List ℕ) → Made d ws m rows → flat (cells_of d ws) ≡ take (m * (d + 1)) rows
cells-flat d ws m rows a = ap flat (sym a.same) ∙ flat-cut (suc d) m rows ∙ ap (λ (n : ℕ). take (m * n) rows) (sym (add-one d))

-- ---- the edges
module _ (d : ℕ) (ws keys rows spare counts : List ℕ) (w : Working (edge_need d (length ws)) d ws keys rows spare counts) where
  pub as-cells : Working (need_of d (length ws)) d ws keys rows spare counts
  as-cells = record { passed = w.passed; room = wider d (length ws) (lengths keys rows spare counts) w.room }

  module _ (m : ℕ) (keys' rows' spare' counts' : List ℕ) (lk : length keys' ≡ length keys) (lr : length rows' ≡ length rows) (ls : length spare' ≡ length spare) (lc : length counts' ≡ length counts) (a : Made d ws m rows') where
    pub edging : Edging d m (length ws) keys' rows' spare' counts'
    edging =
        let p = room-pairs d m (length ws) a.most in
        let l = room-least d (length ws) in
        let q = room_most d (length ws) w.passed.small in
        record {
          cells = a.cells;
          rows_long = omega (arith, a.most, w.room.in_rows);
          keys_long = omega (arith, w.room.in_keys);
          order_long = omega (arith, w.room.in_rows);
          spare_long = omega (arith, w.room.in_spare);
          counts_long = omega (arith, w.room.in_counts);
          buckets = omega (arith, w.room.in_counts);
          few = omega (arith, a.corners);
          small = omega (arith, a.most, a.corners);
          dim = omega (arith, w.passed.small);
          below = a.below;
        }

  -- the edges of the cells that stand in rows are those of the words
  pub edges-of : (m e : ℕ) (rows' keys'' list : List ℕ) → Made d ws m rows' → Named (edges_of (cut (suc d) m rows')) 2 e keys'' list → Named (edges_of (cells_of d ws)) 2 e keys'' list
  edges-of m e rows' keys'' list a n = subst (λ (cs : List (List ℕ)). Named (edges_of cs) 2 e keys'' list) a.same n

-- ---- the facets
pub width-most : (beside : Beside) → width_of beside ≤ 5
width-most Places = omega arith
width-most Signs = omega arith

room-narrow : (d m n : ℕ) → d ≤ most_dimension → n < many_corners → m * suc d ≤ n → m * slots d * d < 4294967296
room-narrow d m n h c k = omega (arith, room-rows d m n k, room_most d n h)

module _ (d : ℕ) (ws keys rows spare counts : List ℕ) (w : Working (need_of d (length ws)) d ws keys rows spare counts) (m : ℕ) (keys' rows' spare' counts' : List ℕ) (lk : length keys' ≡ length keys) (lr : length rows' ≡ length rows) (ls : length spare' ≡ length spare) (lc : length counts' ≡ length counts) (a : Made d ws m rows') where
  pub passing : Meeting d m (length ws) keys' rows' spare' counts' × (m * slots d * d < 4294967296)
  passing = (meeting d ws keys rows spare counts w m keys' rows' spare' counts' lk lr ls lc a, room-narrow d m (length ws) w.passed.small a.corners a.most)

  module _ (said : Option ℕ) (f : ℕ) (keys'' rows'' spare'' counts'' : List ℕ) (lr'' : length rows'' ≡ length rows') (c : Found d (cut (suc d) m rows') said keys'' spare'' counts'' rows'') where
    crowd : said ≡ None → Crowded d (cells_of d ws)
    crowd e = subst (λ (cs : List (List ℕ)). Crowded d cs) a.same (c.no e)

    -- 7
    pub border-crowded : (out : List ℕ) → said ≡ None → Worked d ws (border_of d (cells_of d ws)) (Err CrowdedFacet) out out
    border-crowded out e = record { handed = []; ends = crowded (crowd e); result = refl }

    pub both-crowded : (beside out list : List ℕ) → said ≡ None → WorkedBoth beside d ws (Err CrowdedFacet) out out list list
    both-crowded beside out list e = record { handed = ([], []); ends = crowded (crowd e); result = refl; sides = refl }

    module _ (e : said ≡ Some f) where
      free : Crowded d (cells_of d ws) → ⊥
      free x = not-crowded d m (cut (suc d) m rows') (cut-length (suc d) m rows') rows'' (c.yes f e).mates (omega (arith, a.most, a.corners)) (subst (λ (cs : List (List ℕ)). Crowded d cs) (sym a.same) x)

      pub pass_of : Pass d (cells_of d ws) f keys'' spare'' counts'' rows''
      pass_of = subst (λ (cs : List (List ℕ)). Pass d cs f keys'' spare'' counts'' rows'') a.same (c.yes f e)

      most-facets : f ≤ length ws
      most-facets =
          let q : length (cut (suc d) m rows') * slots d ≡ m * slots d = ap (λ (n : ℕ). n * slots d) (cut-length (suc d) m rows') in
          omega (arith, (c.yes f e).classes.most, mul-le-mul_left m (slots-most d), a.most)

      pub loning : (f ≤ length spare'') × (f ≤ length counts'') × (f ≤ length rows'')
      loning = (pass_of.classes.named.rows.long, pass_of.classes.long, omega (arith, most-facets, w.room.in_rows))

      pub border-of : (j : ℕ) (to : List ℕ) → j ≡ length (lone_rows f spare'' counts'') → to ≡ lone_rows f spare'' counts'' ++ drop j rows'' → Named (border_of d (cells_of d ws)) d j keys'' to
      border-of j to n q = border-named d (cells_of d ws) f keys'' spare'' counts'' pass_of.classes free j to (drop j rows'') n q

      pub border-done : (r : Counted) (out out' : List ℕ) → Handed (border_of d (cells_of d ws)) r out out' → Worked d ws (border_of d (cells_of d ws)) r out out'
      border-done r out out' h = record { handed = h.handed; ends = rest free h.gives; result = h.result }

      -- a facet there is has a dimension
      pub besides : (beside : Beside) (k : ℕ) (list : List ℕ) → k ≡ slots d → f * width_of beside ≤ length list → Besides beside d k f spare'' counts'' list
      besides beside k list q h =
          record {
            some = λ l. rw q (positive (slots d) l (c.yes f e).classes.most);
            few = rw q (slots-most d);
            dim = omega (arith, w.passed.small);
            in_reps = pass_of.classes.named.rows.long;
            in_others = pass_of.classes.long;
            room = h;
          }
        where
          positive : (z : ℕ) → 0 < f → f ≤ length (cut (suc d) m rows') * z → 0 < z
          positive zero l g = absurd (omega (arith, mul-zero (length (cut (suc d) m rows'))))
          positive (suc z) l g = omega arith

      facets-flat : flat (facets_of d (cells_of d ws)) ≡ rows_of keys'' d (take f spare'')
      facets-flat = named_flat (facets_of d (cells_of d ws)) d f keys'' spare'' pass_of.classes.named

      facets-long : length (flat (facets_of d (cells_of d ws))) ≡ f * d
      facets-long = ap length facets-flat ∙ rows_of-pos keys'' d spare'' f f pass_of.classes.named.rows.inside (omega arith) pass_of.classes.named.rows.long

      good : Cells d (cells_of d ws)
      good = subst (λ (cs : List (List ℕ)). Cells d cs) a.same a.cells

      beside-is : (beside : Beside) → beside_for beside d (cells_of d ws) ≡ beside_as beside d (slots d) f spare'' counts''
      beside-is Places = table_is d (cells_of d ws) f keys'' spare'' counts'' pass_of.classes free
      beside-is Signs = records-are d (cells_of d ws) good f keys'' spare'' counts'' rows'' pass_of free

      beside-width : (beside : Beside) → length (beside_as beside d (slots d) f spare'' counts'') ≡ f * width_of beside
      beside-width Places = fours-length d (slots d) spare'' counts'' f
      beside-width Signs = fives-length d (slots d) spare'' counts'' f

      beside_long : (beside : Beside) → length (beside_for beside d (cells_of d ws)) ≡ f * width_of beside
      beside_long beside = ap length (beside-is beside) ∙ beside-width beside

      pub both-words-short : (beside : Beside) (out list : List ℕ) → length out < f * d → WorkedBoth (beside_for beside d (cells_of d ws)) d ws (Err TooShort) out out list list
      both-words-short beside out list h = record { handed = ([], []); ends = rest free (words_short (omega (arith, facets-long))); result = refl; sides = refl }

      pub both-list-short : (beside : Beside) (out list : List ℕ) → length list < f * width_of beside → WorkedBoth (beside_for beside d (cells_of d ws)) d ws (Err TooShort) out out list list
      both-list-short beside out list h = record { handed = ([], []); ends = rest free (table_short (omega (arith, beside_long beside))); result = refl; sides = refl }

      pub both-handed : (beside : Beside) (out out' list list' : List ℕ) (k : ℕ) → k ≡ slots d → f * d ≤ length out → f * width_of beside ≤ length list → out' ≡ rows_of keys'' d (take f spare'') ++ drop (f * d) out → list' ≡ beside_as beside d k f spare'' counts'' ++ drop (f * width_of beside) list →
          WorkedBoth (beside_for beside d (cells_of d ws)) d ws (Ok f) out out' list list'
      both-handed beside out out' list list' k q h g o l =
          record {
            handed = (flat (facets_of d (cells_of d ws)), beside_for beside d (cells_of d ws));
            ends =
                rest free
                (subst (λ (n : ℕ). GivesBoth (facets_of d (cells_of d ws)) (beside_for beside d (cells_of d ws)) (length out) (length list) (Ok n) (flat (facets_of d (cells_of d ws)), beside_for beside d (cells_of d ws))) (named-many (facets_of d (cells_of d ws)) d f keys'' spare'' pass_of.classes.named)
                (both_listed (omega (arith, facets-long)) (omega (arith, beside_long beside))));
            result = rw (facets-long, facets-flat) o;
            sides = rw (beside_long beside, beside-is beside) (l ∙ ap (λ (z : ℕ). beside_as beside d z f spare'' counts'' ++ drop (f * width_of beside) list) q);
          }

-- ---- after 7
module _ (d : ℕ) (ws : List ℕ) (ok : Bool) (s : Sound d ws ok) (words : List (List ℕ)) where
  pub worked-crowded : (out : List ℕ) → ok ≡ false → Worked d ws words (Err CrowdedFacet) out out
  worked-crowded out e = record { handed = []; ends = crowded (s.no e); result = refl }

  pub worked-rest : (r : Counted) (out out' : List ℕ) → ok ≡ true → Handed words r out out' → Worked d ws words r out out'
  worked-rest r out out' e h = record { handed = h.handed; ends = rest (s.yes e) h.gives; result = h.result }
