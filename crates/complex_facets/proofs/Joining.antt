-- The records tell the mates of the rows: a row is the lower or the upper row of its facet, so that its record has the cell across, and the two signs are equal exactly where the
-- positions dropped are both even or both odd. Assumes nothing.
use mathlib.Core.Bool.{Bool}
use mathlib.Core.List.{List, ◌++◌}
use mathlib.Core.Logic.{inl, inr, ⊎_elim}
use mathlib.Core.Path.{◌≡◌, sym, ap, ◌∙◌, subst}
use Prim.Native.Nat.{ℕ, zero, suc, ◌+◌, ◌-◌, ◌*◌, ◌/◌, ◌%◌, ◌<◌, ◌≤◌}
use native.Mathlib.Nat.{add_comm, div-le_self, mul-le-mul_left}
use native.Mathlib.Decide.{ℕ_discrete, dec_lt}
use native.Mathlib.Omega.{arith}
use lib.Dec.{eqb}
use lib.ListN.{length, get_or, take, drop, set, length-append, get_or-append}
use lib.Seq.{length-take-le, get_or-take, take_at, get_or-append-add, get_or-set_same, get_or-set_other}
use borrow.Author.Tests.{eq-eqb, ne_eqb}
use Rattle.sorting.specs.Bucket.{cell}
use Rattle.sorting.proofs.Firsts.{id-rep}
use Rattle.lists.specs.Rows.{cut}
use Rattle.lists.specs.Words.{none}
use Rattle.lists.proofs.Rows.{cut-length, row-slot-below, slots-some}
use Rattle.complex.specs.Facets.{Crowded, slots}
use Rattle.complex_mates.specs.Table.{Across}
use Rattle.complex_mates.proofs.Meeting.{slots-most}
use Rattle.complex_mates.proofs.Mated.{not-crowded}
use Rattle.complex_facets.specs.WorkClasses.{Turning, Classed, Pass}
use Rattle.complex_facets.specs.WorkSides.{or_none, cell_of}
use Rattle.complex_facets.specs.Records.{one_if, records_of}
use Rattle.complex_facets.specs.WorkRecords.{zero_if, sign_at, five_of, fives, Recording}
use Rattle.complex_facets.specs.WorkAcross.{Keeping, Told, Recorded, choose, other_cell, Crossing, Crossed, Linked}
use Rattle.complex_facets.proofs.Passing.{turning, classed-pass, row-facet}
use Rattle.complex_facets.proofs.Recording.{fives-length, records-are}

-- ---- the loop of `across`: one row more is read
pub crossed-more : (k x : ℕ) (records ids other flip : List ℕ) (at a b : ℕ) → at ≡ get_or ids x 0 * 5 → x < length other → x < length flip → ((y : ℕ) → y < x → Crossed k records ids other flip y) →
    a ≡ other_cell (x / k) (get_or records at 0) (get_or records (at + 1 + 1) 0) → b ≡ one_if (eqb (get_or records (at + 1) 0) (get_or records (at + 1 + 1 + 1) 0)) →
    (y : ℕ) → y < x + 1 → Crossed k records ids (set other x a) (set flip x b) y
crossed-more k x records ids other flip at a b p lo lf w e u y h =
    elim (ℕ_discrete y x) [
      | yes q ↦ rw q
          (record {
            to = get_or-set_same other x a 0 lo ∙ e ∙ ap (λ (z : ℕ). other_cell (x / k) (get_or records z 0) (get_or records (z + 1 + 1) 0)) p;
            by = get_or-set_same flip x b 0 lf ∙ u ∙ ap (λ (z : ℕ). one_if (eqb (get_or records (z + 1) 0) (get_or records (z + 1 + 1 + 1) 0))) p;
          })
      | no q ↦
          let v = w y (omega arith) in
          record { to = get_or-set_other other x y a 0 q ∙ v.to; by = get_or-set_other flip x y b 0 q ∙ v.by }
    ]

pub other-same : (c l u : ℕ) → l ≡ c → other_cell c l u ≡ u
other-same c l u e = ap (λ (t : Bool). choose t u l) (eq-eqb l c e)

pub other-else : (c l u : ℕ) → (l ≡ c → ⊥) → other_cell c l u ≡ l
other-else c l u n = ap (λ (t : Bool). choose t u l) (ne_eqb l c n)

-- ---- a row's cell and sign
cell-some : (k x : ℕ) → (x ≡ none → ⊥) → cell_of k x ≡ x / k
cell-some k x n = ap (λ (t : Bool). or_none t (x / k)) (ne_eqb x none n)

cell-none : (k x : ℕ) → x ≡ none → cell_of k x ≡ none
cell-none k x e = ap (λ (t : Bool). or_none t (x / k)) (eq-eqb x none e)

sign-some : (d k x : ℕ) → (x ≡ none → ⊥) → sign_at d k x ≡ (d - x % k) % 2 + 1
sign-some d k x n = ap (λ (t : Bool). zero_if t ((d - x % k) % 2 + 1)) (ne_eqb x none n)

-- the signs are equal exactly where the positions dropped are both even or both odd
parity-flip : (d a b : ℕ) → a ≤ d → b ≤ d → one_if (eqb ((d - a) % 2 + 1) ((d - b) % 2 + 1)) ≡ (a + b + 1) % 2
parity-flip d a b ha hb =
    elim (ℕ_discrete ((d - a) % 2 + 1) ((d - b) % 2 + 1)) [
      | yes e ↦ let g : 1 ≡ (a + b + 1) % 2 = omega (arith, e) in ap one_if (eq-eqb ((d - a) % 2 + 1) ((d - b) % 2 + 1) e) ∙ g
      | no n ↦ let g : 0 ≡ (a + b + 1) % 2 = omega (arith, n) in ap one_if (ne_eqb ((d - a) % 2 + 1) ((d - b) % 2 + 1) n) ∙ g
    ]

flips : (d k x y a b : ℕ) → a ≡ sign_at d k x → b ≡ sign_at d k y → (x ≡ none → ⊥) → (y ≡ none → ⊥) → x % k ≤ d → y % k ≤ d → one_if (eqb a b) ≡ (x % k + y % k + 1) % 2
flips d k x y a b ea eb nx ny hx hy =
    ap (λ (z : ℕ). one_if (eqb z b)) (ea ∙ sign-some d k x nx) ∙ ap (λ (z : ℕ). one_if (eqb ((d - x % k) % 2 + 1) z)) (eb ∙ sign-some d k y ny) ∙ parity-flip d (x % k) (y % k) hx hy

-- what the record tells of row x is what its mate tells
pub crosses : (d k n x : ℕ) (mates records ids other flip : List ℕ) → k ≤ suc d → x < n * k → n * k < none → ((get_or mates x 0 ≡ none → ⊥) → get_or mates x 0 < n * k) → Told d k mates records (get_or ids x 0 * 5) x → Crossed k records ids other flip x → Across k mates other flip x
crosses d k n x mates records ids other flip few h small below t v =
    let p = get_or ids x 0 * 5 in
    let y = get_or mates x 0 in
    let nx : x ≡ none → ⊥ = λ e. omega arith in
    let hx : x % k ≤ d = omega (arith, row-slot-below x n k h) in
    let hy : (y ≡ none → ⊥) → y % k ≤ d = λ s. omega (arith, row-slot-below y n k (below s)) in
    ⊎_elim
    (λ w.
    let r : get_or records p 0 ≡ x / k = t.cell ∙ ap (λ (z : ℕ). cell_of k z) w.0 ∙ cell-some k x nx in
    let o : get_or other x 0 ≡ cell_of k y = v.to ∙ other-same (x / k) (get_or records p 0) (get_or records (p + 1 + 1) 0) r ∙ t.other ∙ ap (λ (z : ℕ). cell_of k z) w.1 in
    record {
      edge = λ z. o ∙ cell-none k y z;
      to = λ s. o ∙ cell-some k y s;
      by = λ s. v.by ∙ flips d k x y (get_or records (p + 1) 0) (get_or records (p + 1 + 1 + 1) 0) (t.sign ∙ ap (λ (z : ℕ). sign_at d k z) w.0) (t.other_sign ∙ ap (λ (z : ℕ). sign_at d k z) w.1) nx s hx (hy s);
    })
    (λ w.
    let r : get_or records p 0 ≡ cell_of k y = t.cell ∙ ap (λ (z : ℕ). cell_of k z) w.0 in
    let u : get_or records (p + 1 + 1) 0 ≡ x / k = t.other ∙ ap (λ (z : ℕ). cell_of k z) w.1 ∙ cell-some k x nx in
    record {
      edge =
          λ z.
          let e : get_or records p 0 ≡ none = r ∙ cell-none k y z in
          v.to ∙ other-else (x / k) (get_or records p 0) (get_or records (p + 1 + 1) 0) (λ q. omega (arith, e, q, div-le_self x k)) ∙ e;
      to =
          λ s.
          elim (ℕ_discrete (get_or records p 0) (x / k)) [
            | yes q ↦ v.to ∙ other-same (x / k) (get_or records p 0) (get_or records (p + 1 + 1) 0) q ∙ u ∙ sym q ∙ r ∙ cell-some k y s
            | no q ↦ v.to ∙ other-else (x / k) (get_or records p 0) (get_or records (p + 1 + 1) 0) q ∙ r ∙ cell-some k y s
          ];
      by =
          λ s.
          v.by
          ∙ flips d k y x (get_or records (p + 1) 0) (get_or records (p + 1 + 1 + 1) 0) (t.sign ∙ ap (λ (z : ℕ). sign_at d k z) w.0) (t.other_sign ∙ ap (λ (z : ℕ). sign_at d k z) w.1) s nx (hy s) hx
          ∙ ap (λ (z : ℕ). (z + 1) % 2) (add_comm (y % k) (x % k));
    })
    t.which

-- ---- number j of facet i's record
module _ (d k : ℕ) (reps others : List ℕ) where
  fives-at : (f i j : ℕ) → i < f → j < 5 → get_or (fives d k f reps others) (i * 5 + j) 0 ≡ get_or (five_of d k (get_or reps i 0) (get_or others i 0)) j 0
  unfolding fives
  fives-at zero i j h l = absurd (omega arith)
  fives-at (suc f) i j h l =
      let n = fives-length d k reps others f in
      elim (dec_lt i f) [
        | yes q ↦ get_or-append (fives d k f reps others) (five_of d k (get_or reps f 0) (get_or others f 0)) 0 (i * 5 + j) (omega (arith, n)) ∙ fives-at f i j q l
        | no q ↦
            let e : i ≡ f = omega arith in
            let g : i * 5 + j ≡ length (fives d k f reps others) + j = omega (arith, n, e) in
            ap (λ (z : ℕ). get_or (fives d k f reps others ++ five_of d k (get_or reps f 0) (get_or others f 0)) z 0) g
            ∙ get_or-append-add (fives d k f reps others) (five_of d k (get_or reps f 0) (get_or others f 0)) j 0
            ∙ ap (λ (z : ℕ). get_or (five_of d k (get_or reps z 0) (get_or others z 0)) j 0) (sym e)
      ]

  pub record-at : (f i j p : ℕ) (records tail : List ℕ) → records ≡ fives d k f reps others ++ tail → i < f → j < 5 → p ≡ i * 5 + j → get_or records p 0 ≡ get_or (five_of d k (get_or reps i 0) (get_or others i 0)) j 0
  record-at f i j p records tail t h l e =
      ap (λ (z : List ℕ). get_or z p 0) t ∙ ap (λ (z : ℕ). get_or (fives d k f reps others ++ tail) z 0) e
      ∙ get_or-append (fives d k f reps others) tail 0 (i * 5 + j) (omega (arith, fives-length d k reps others f)) ∙ fives-at f i j h l

-- ---- the function `records`, step by step
module _ (d m b : ℕ) (keys rows spare counts : List ℕ) (a : Keeping d m b keys rows spare counts) (f : ℕ) (keys' reps ids mates : List ℕ) (lk : length keys' ≡ length keys) (lr : length reps ≡ length spare) (lm : length mates ≡ length rows) (c : Classed d m f rows keys' reps ids mates) where
  few-rows : m * slots d ≤ m * suc d
  few-rows = mul-le-mul_left m (slots-most d)

  pub in_keys : f ≤ length keys'
  in_keys = omega (arith, c.distinct.few, a.room)

  pub in_rows : f ≤ length mates
  in_rows = omega (arith, c.distinct.few, few-rows, a.meeting.rows_long)

  pub turning-keys : Turning f reps mates keys'
  turning-keys = turning d m b keys rows spare counts a.meeting f keys' reps ids mates lk lr lm c keys' in_keys

  -- the other rows stand in `from`, and are copied to the front of the mates
  module _ (from : List ℕ) (lf : length from ≡ length keys') (turned : (i : ℕ) → i < f → get_or from i 0 ≡ get_or mates (get_or reps i 0) 0) (part : List ℕ) (e : part ≡ take f from) where
    part-long : length part ≡ f
    part-long = ap length e ∙ length-take-le f from (omega (arith, in_keys))

    others-long : f ≤ length (part ++ drop f mates)
    others-long = omega (arith, length-append part (drop f mates), part-long)

    others-are : (i : ℕ) → i < f → get_or (part ++ drop f mates) i 0 ≡ get_or mates (get_or reps i 0) 0
    others-are i h =
        get_or-append part (drop f mates) 0 i (omega (arith, part-long)) ∙ ap (λ (l : List ℕ). get_or l i 0) e ∙ get_or-take f from i 0 h ∙ turned i h

    module _ (k : ℕ) (ek : k ≡ slots d) where
      pub recording : Recording d k f reps (part ++ drop f mates) from
      recording =
          record {
            some = λ h. subst (λ (z : ℕ). 0 < z) (sym ek) (slots-some 0 m (slots d) (omega (arith, c.distinct.few)));
            few = rw ek (slots-most d);
            dim = a.meeting.small;
            in_reps = omega (arith, c.distinct.few, few-rows, a.meeting.spare_long);
            in_others = others-long;
            room = omega (arith, c.distinct.few, a.room);
          }

      module _ (records : List ℕ) (t : records ≡ fives d k f reps (part ++ drop f mates) ++ drop (f * 5) from) where
        as-slots : records ≡ fives d (slots d) f reps (part ++ drop f mates) ++ drop (f * 5) from
        as-slots = t ∙ ap (λ (z : ℕ). fives d z f reps (part ++ drop f mates) ++ drop (f * 5) from) ek

        the-pass : Pass d (cut (suc d) m rows) f keys' reps (part ++ drop f mates) mates
        the-pass = classed-pass d m b keys rows spare counts a.meeting f keys' reps ids mates lk lr lm c a.narrow (part ++ drop f mates) others-long others-are

        free : Crowded d (cut (suc d) m rows) → ⊥
        free = not-crowded d m (cut (suc d) m rows) (cut-length (suc d) m rows) mates the-pass.mates a.meeting.few

        told : (x : ℕ) → x < m * slots d → Told d (slots d) mates records (get_or ids x 0 * 5) x
        told x h =
            let i = get_or ids x 0 in
            let hi : i < f = c.distinct.id_below x h in
            let s = c.paired in
            let ir : get_or ids (get_or reps i 0) 0 ≡ i = id-rep (cell keys' d) d (m * slots d) f reps ids c.distinct i hi in
            record {
              lower = get_or reps i 0;
              upper = get_or (part ++ drop f mates) i 0;
              cell = record-at d (slots d) reps (part ++ drop f mates) f i 0 (i * 5) records (drop (f * 5) from) as-slots hi (omega arith) (omega arith);
              sign = record-at d (slots d) reps (part ++ drop f mates) f i 1 (i * 5 + 1) records (drop (f * 5) from) as-slots hi (omega arith) (omega arith);
              other = record-at d (slots d) reps (part ++ drop f mates) f i 2 (i * 5 + 1 + 1) records (drop (f * 5) from) as-slots hi (omega arith) (omega arith);
              other_sign = record-at d (slots d) reps (part ++ drop f mates) f i 3 (i * 5 + 1 + 1 + 1) records (drop (f * 5) from) as-slots hi (omega arith) (omega arith);
              which =
                  elim (ℕ_discrete (get_or reps i 0) x) [
                    | yes q ↦ inl (q, others-are i hi ∙ ap (λ (z : ℕ). get_or mates z 0) q)
                    | no q ↦ inr (sym (s.all x (get_or reps i 0) h (c.distinct.below i hi) (λ u. q (sym u)) (sym ir)), others-are i hi ∙ s.all (get_or reps i 0) x (c.distinct.below i hi) h q ir)
                  ];
            }

        in-m : (x : ℕ) → x < length (cut (suc d) m rows) * slots d → x < m * slots d
        in-m x h = subst (λ (n : ℕ). x < n * slots d) (cut-length (suc d) m rows) h

        the-records : records_of d (cut (suc d) m rows) (cut (suc d) m rows) ≡ fives d (slots d) f reps (part ++ drop f mates)
        the-records = records-are d (cut (suc d) m rows) a.meeting.cells f keys' reps (part ++ drop f mates) mates the-pass free

        pub recorded : Recorded d (cut (suc d) m rows) records ids
        recorded =
            record {
              same =
                  ap (λ (l : List ℕ). take (length (records_of d (cut (suc d) m rows) (cut (suc d) m rows))) l) as-slots
                  ∙ take_at (fives d (slots d) f reps (part ++ drop f mates)) (drop (f * 5) from) (length (records_of d (cut (suc d) m rows) (cut (suc d) m rows))) (ap length (sym the-records))
                  ∙ sym the-records;
              facet =
                  λ x h.
                  row-facet d m b keys rows spare counts a.meeting keys' lk c.written f reps ids (part ++ drop f mates) mates c.distinct (omega (arith, few-rows, a.meeting.spare_long)) others-long c.paired others-are a.narrow x (in-m x h);
              inside =
                  λ x h.
                  omega (arith, c.distinct.id_below x (in-m x h), ap length as-slots, length-append (fives d (slots d) f reps (part ++ drop f mates)) (drop (f * 5) from), fives-length d (slots d) reps (part ++ drop f mates) f);
              mates = mates;
              table = the-pass.mates;
              told = λ x h. told x (in-m x h);
            }

-- ---- the function `links`, step by step
module _ (d m b : ℕ) (keys rows spare counts : List ℕ) (a : Keeping d m b keys rows spare counts) (keys' rows' spare' counts' : List ℕ) (lr : length rows' ≡ length rows) (ls : length spare' ≡ length spare) (lc : length counts' ≡ length counts) (r : Recorded d (cut (suc d) m rows) keys' counts') (k : ℕ) (e : k ≡ slots d) where
  most : m * k ≤ m * suc d
  most = rw e (mul-le-mul_left m (slots-most d))

  pub crossing-few : m * k < none
  crossing-few = omega (arith, most, a.meeting.few)

  in_cut : (x : ℕ) → x < m * k → x < length (cut (suc d) m rows) * slots d
  in_cut x h = rw (cut-length (suc d) m rows) (subst (λ (z : ℕ). x < m * z) e h)

  pub crossing : Crossing k (m * k) keys' counts' rows' spare'
  crossing =
      record {
        ids_long = omega (arith, most, a.meeting.counts_long);
        other_long = omega (arith, most, a.meeting.rows_long);
        flip_long = omega (arith, most, a.meeting.spare_long);
        few = crossing-few;
        inside = λ x h. r.inside x (in_cut x h);
        some = λ x h. slots-some x m k h;
      }

  pub linked-done : (other flip : List ℕ) → ((x : ℕ) → x < m * k → Crossed k keys' counts' other flip x) → Linked d (cut (suc d) m rows) other flip
  linked-done other flip w =
      record {
        mates = r.mates;
        table = r.table;
        across =
            λ x h.
            let n = length (cut (suc d) m rows) in
            let j : n ≡ m = cut-length (suc d) m rows in
            let g : n * slots d < none = rw j (subst (λ (z : ℕ). m * z < none) e crossing-few) in
            let u : x < m * k = subst (λ (z : ℕ). x < m * z) (sym e) (subst (λ (z : ℕ). x < z * slots d) j h) in
            crosses d (slots d) n x r.mates keys' counts' other flip (slots-most d) h g (λ s. r.table.below x h s) (r.told x h) (subst (λ (z : ℕ). Crossed z keys' counts' other flip x) e (w x u));
      }
