-- One turn of the loop over the births. Assumes nothing.
use Rattle.refusal.specs.declared.Refusal.{Refusal}
use Rattle.std.specs.Prelude.{Ok, Err, Result, Some, None}
use mathlib.Core.Path.{◌≡◌, refl, sym, ap, subst, ◌∙◌}
use mathlib.Core.Bool.{Bool, true, false, cond, ◌&&◌}
use mathlib.Core.List.{List}
use Prim.Native.Nat.{ℕ, zero, suc, ◌+◌, ◌*◌, ◌-◌, ◌/◌, ◌%◌, ◌≤◌}
use native.Mathlib.Omega.{arith}
use lib.ListN.{length, drop, length-append}
use lib.Dec.{leb, eqb}
use Rattle.file_mesh.specs.declared.Run.{Run}
use Rattle.file_mesh.specs.Rules.{more, number_fits, refinement_fits, count_fits, vertex_fits, weight_fits, run_ends, weights_of}
use Rattle.file_mesh.specs.Read.{Part, no, got, and_then, asked, number, field, Opening, opening_from, pairs_from, Birth, birth_from, Births, no_births, with_birth, births_read_from, nothing}
use Rattle.file_mesh.proofs.Parts.{same-part, then-inv, asked-inv}
use Rattle.file_mesh_read.specs.declared.Born.{Born}
use Rattle.file_mesh_read.specs.declared.Counts.{Counts}
use Rattle.file_mesh_read.specs.Work.{Next, one, end, next_from, next_of, counts_of}
use Rattle.file_mesh_read.proofs.Parts.{number-inv, opening-rest}

-- ---- what follows a part that was read

pub field-rest : (bs : List ℕ) (at k : ℕ) (test : ℕ → Bool) (n : ℕ) (r : List ℕ) → field k test (drop at bs) ≡ got n r → (k ≤ length bs - at) × (r ≡ drop (at + k) bs)
unfolding field
field-rest bs at k test n r e =
    let i = then-inv (number k (drop at bs)) _ n r e in
    let f = number-inv bs at k i.x i.r i.part in
    let s = same-part (asked-inv (test i.x) (got i.x i.r) n r i.next).1 in
    (f.0, sym s.1 ∙ f.1)

pub record PairsRest (bs : List ℕ) (at c : ℕ) (ps r : List ℕ) : Type 0 where
  pub inside : c * 6 ≤ length bs - at
  pub rest : r ≡ drop (at + c * 6) bs
  pub long : length ps ≡ c + c

pub pairs-rest : (bs : List ℕ) (at first low c : ℕ) (ps r : List ℕ) → pairs_from first low c (drop at bs) ≡ got ps r → PairsRest bs at c ps r
unfolding pairs_from
pairs-rest bs at first low zero ps r e =
    let s = same-part e in
    record { inside = omega arith; rest = sym s.1 ∙ ap (λ (n : ℕ). drop n bs) {x = at} {y = at + 0 * 6} (omega arith); long = ap length (sym s.0) }
pairs-rest bs at first low (suc c) ps r e =
    let i = then-inv (field 4 (vertex_fits first low) (drop at bs)) _ ps r e in
    let f = field-rest bs at 4 (vertex_fits first low) i.x i.r i.part in
    let j = then-inv (field 2 weight_fits i.r) _ ps r i.next in
    let g = field-rest bs (at + 4) 2 weight_fits j.x j.r (ap (field 2 weight_fits) (sym f.1) ∙ j.part) in
    let k = then-inv (pairs_from first (suc i.x) c j.r) _ ps r j.next in
    let h = pairs-rest bs (at + 4 + 2) first (suc i.x) c k.x k.r (ap (pairs_from first (suc i.x) c) (sym g.1) ∙ k.part) in
    let s = same-part k.next in
    record {
      inside = omega (arith, f.0, g.0, h.inside);
      rest = sym s.1 ∙ h.rest ∙ ap (λ (n : ℕ). drop n bs) {x = at + 4 + 2 + c * 6} {y = at + suc c * 6} (omega arith);
      long = ap length (sym s.0) ∙ omega (arith, h.long);
    }

pub record BirthRest (bs : List ℕ) (at : ℕ) (b : Birth) (r : List ℕ) : Type 0 where
  pub inside : 8 + b.count * 6 ≤ length bs - at
  pub rest : r ≡ drop (at + (8 + b.count * 6)) bs
  pub long : length b.pairs ≡ b.count + b.count

pub birth-rest : (vertices : ℕ) (run : Run) (len : ℕ) (bs : List ℕ) (at : ℕ) (b : Birth) (r : List ℕ) → birth_from vertices run len (drop at bs) ≡ got b r → BirthRest bs at b r
unfolding birth_from
birth-rest vertices run len bs at b r e =
    let i = then-inv (field 4 (number_fits vertices run) (drop at bs)) _ b r e in
    let fi = field-rest bs at 4 (number_fits vertices run) i.x i.r i.part in
    let j = then-inv (field 2 (refinement_fits run) i.r) _ b r i.next in
    let fj = field-rest bs (at + 4) 2 (refinement_fits run) j.x j.r (ap (field 2 (refinement_fits run)) (sym fi.1) ∙ j.part) in
    let k = then-inv (field 2 (λ c. count_fits c && eqb len (10 + c * 6)) j.r) _ b r j.next in
    let fk = field-rest bs (at + 4 + 2) 2 (λ c. count_fits c && eqb len (10 + c * 6)) k.x k.r (ap (field 2 (λ c. count_fits c && eqb len (10 + c * 6))) (sym fj.1) ∙ k.part) in
    let p = then-inv (pairs_from (more run i.x j.x).first 0 k.x k.r) _ b r k.next in
    let fp = pairs-rest bs (at + 4 + 2 + 2) (more run i.x j.x).first 0 k.x p.x p.r (ap (pairs_from (more run i.x j.x).first 0 k.x) (sym fk.1) ∙ p.part) in
    let s = same-part (asked-inv (eqb (weights_of p.x) j.x) _ b r p.next).1 in
    subst (λ (y : Birth). BirthRest bs at y r) s.0
    (record {
      inside = omega (arith, fi.0, fj.0, fk.0, fp.inside);
      rest = sym s.1 ∙ fp.rest ∙ ap (λ (n : ℕ). drop n bs) {x = at + 4 + 2 + 2 + k.x * 6} {y = at + (8 + k.x * 6)} (omega arith);
      long = fp.long;
    })

-- ---- the births, a record at a time

abbrev pub after : ℕ → ℕ → Run → Next → List ℕ → Part Births
after most vertices run end s = got no_births s
after most vertices run (one b) s = and_then (births_read_from most vertices (more run b.number b.r) s) (λ l t. got (with_birth b l) t)

module _ (most vertices : ℕ) (run : Run) where
  by-birth : (p : Part Birth) (t : Bool) → asked t (and_then p (λ b s. and_then (births_read_from most vertices (more run b.number b.r) s) (λ l u. got (with_birth b l) u))) ≡ and_then (asked t (and_then p (λ b s. got (one b) s))) (after most vertices run)
  unfolding and_then asked
  by-birth (no why) true = refl
  by-birth (no why) false = refl
  by-birth (got b s) true = refl
  by-birth (got b s) false = refl

  by_end : (t : Bool) (r : List ℕ) → asked t (got no_births r) ≡ and_then (asked t (got end r)) (after most vertices run)
  unfolding and_then asked
  by_end true r = refl
  by_end false r = refl

  by_kind : (k : Bool) (p : Part Birth) (t u : Bool) (r : List ℕ) →
      cond k (asked t (got no_births r)) (asked u (and_then p (λ b s. and_then (births_read_from most vertices (more run b.number b.r) s) (λ l v. got (with_birth b l) v))))
      ≡ and_then (cond k (asked t (got end r)) (asked u (and_then p (λ b s. got (one b) s)))) (after most vertices run)
  by_kind true p t u r = by_end t r
  by_kind false p t u r = by-birth p u

  pub by-record : (bs : List ℕ) → births_read_from (suc most) vertices run bs ≡ and_then (next_from vertices run bs) (after most vertices run)
  unfolding births_read_from next_from and_then
  by-record bs = go (opening_from bs) refl
    where
      go : (p : Part Opening) → opening_from bs ≡ p → births_read_from (suc most) vertices run bs ≡ and_then (next_from vertices run bs) (after most vertices run)
      go (no why) e = rw e
      go (got o r) e = rw e (by_kind (eqb o.kind 4) (birth_from vertices run o.len r) (eqb o.len 2 && (run_ends vertices run && nothing r)) (eqb o.kind 3 && (leb 10 o.len && eqb ((o.len - 10) % 6) 0)) r)

-- ---- what the answer on a record tells

next-refused : (p : Part Next) (why : Refusal) → Err why ≡ next_of p → p ≡ no why
next-refused (no other) why e = cc
next-refused (got (one b) r) why e = cc
next-refused (got end r) why e = cc

next-ended : (p : Part Next) → Ok None ≡ next_of p → (r : List ℕ) × (p ≡ got end r)
next-ended (no why) e = cc
next-ended (got (one b) r) e = cc
next-ended (got end r) e = (r, refl)

record IsOne (p : Part Next) (found : Born) : Type 0 where
  pub b : Birth
  pub s : List ℕ
  pub is : p ≡ got (one b) s
  pub number : b.number ≡ found.number
  pub refinement : b.r ≡ found.r
  pub count : b.count ≡ found.count

next_one : (p : Part Next) (found : Born) → Ok (Some found) ≡ next_of p → IsOne p found
next_one (no why) found e = cc
next_one (got (one b) s) found e =
    let q : record { number = b.number; r = b.r; count = b.count } ≡ found = cc in
    record { b = b; s = s; is = refl; number = ap (λ (x : Born). x.number) q; refinement = ap (λ (x : Born). x.r) q; count = ap (λ (x : Born). x.count) q }
next_one (got end s) found e = cc

-- a birth that was read, after the opening of its record
pub record NextBirth (vertices : ℕ) (run : Run) (bs : List ℕ) (at : ℕ) (b : Birth) (s : List ℕ) : Type 0 where
  pub len : ℕ
  pub inside : 6 ≤ length bs - at
  pub is : birth_from vertices run len (drop (at + 6) bs) ≡ got b s

pub next-birth : (vertices : ℕ) (run : Run) (bs : List ℕ) (at : ℕ) (b : Birth) (s : List ℕ) → next_from vertices run (drop at bs) ≡ got (one b) s → NextBirth vertices run bs at b s
unfolding next_from
next-birth vertices run bs at b s e =
    let i = then-inv (opening_from (drop at bs)) _ (one b) s e in
    let o = opening-rest bs at i.x i.r i.part in
    go (eqb i.x.kind 4) i.x.len i.r o.0 o.1 (eqb i.x.len 2 && (run_ends vertices run && nothing i.r)) (eqb i.x.kind 3 && (leb 10 i.x.len && eqb ((i.x.len - 10) % 6) 0)) i.next
  where
    go : (k : Bool) (len : ℕ) (r : List ℕ) → 6 ≤ length bs - at → r ≡ drop (at + 6) bs → (t u : Bool) →
        cond k (asked t (got end r)) (asked u (and_then (birth_from vertices run len r) (λ x y. got (one x) y))) ≡ got (one b) s → NextBirth vertices run bs at b s
    go true len r h q t u e' =
        let z = same-part (asked-inv t (got end r) (one b) s e').1 in
        absurd (let w : ◌≡◌ {A = ℕ} 0 1 = cc in omega arith)
    go false len r h q t u e' =
        let j = then-inv (birth_from vertices run len r) _ (one b) s (asked-inv u _ (one b) s e').1 in
        let z = same-part j.next in
        let x : j.x ≡ b = cc in
        record { len = len; inside = h; is = ap (birth_from vertices run len) (sym q) ∙ j.part ∙ ap (λ (y : Birth). got y j.r) x ∙ ap (λ (y : List ℕ). got b y) z.1 }

next-rest : (vertices : ℕ) (run : Run) (bs : List ℕ) (at : ℕ) (b : Birth) (s : List ℕ) → next_from vertices run (drop at bs) ≡ got (one b) s → (6 ≤ length bs - at) × BirthRest bs (at + 6) b s
next-rest vertices run bs at b s e =
    let n = next-birth vertices run bs at b s e in
    (n.inside, birth-rest vertices run n.len bs (at + 6) b s n.is)

-- ---- the counts so far

abbrev pub counted : ℕ → ℕ → Part Births → Result Counts Refusal
counted many pairs (no why) = Err why
counted many pairs (got l r) = Ok (record { births = many + length l.births / 3; pairs = pairs + length l.pairs / 2 })

two-of : (a b c d : ℕ) → a ≡ c → b ≡ d → ◌≡◌ {A = Result Counts Refusal} (Ok (record { births = a; pairs = b })) (Ok (record { births = c; pairs = d }))
two-of a b c d e f = rw (e, f)

pub counted_none : (p : Part Births) → counts_of p ≡ counted 0 0 p
counted_none (no why) = refl
counted_none (got l r) = two-of _ _ _ _ (omega arith) (omega arith)

counted-more : (many pairs : ℕ) (b : Birth) (p : Part Births) → length b.pairs ≡ b.count + b.count → counted many pairs (and_then p (λ l t. got (with_birth b l) t)) ≡ counted (many + 1) (pairs + b.count) p
unfolding and_then
counted-more many pairs b (no why) e = refl
counted-more many pairs b (got l r) e = two-of _ _ _ _ (omega arith) (omega (arith, length-append b.pairs l.pairs))

module _ (vertices : ℕ) (run : Run) (bs : List ℕ) (at many pairs : ℕ) (a : at ≤ length bs) (fit : 10 + many * 14 ≤ at) where
  fuel : length bs - many ≡ suc (length bs - (many + 1))
  fuel = omega arith

  step : births_read_from (length bs - many) vertices run (drop at bs) ≡ and_then (next_from vertices run (drop at bs)) (after (length bs - (many + 1)) vertices run)
  step = ap (λ (n : ℕ). births_read_from n vertices run (drop at bs)) fuel ∙ by-record (length bs - (many + 1)) vertices run (drop at bs)

  pub births-refused : (why : Refusal) → Err why ≡ next_of (next_from vertices run (drop at bs)) → counted many pairs (births_read_from (length bs - many) vertices run (drop at bs)) ≡ Err why
  unfolding and_then
  births-refused why e = ap (counted many pairs) step ∙ rw (next-refused (next_from vertices run (drop at bs)) why e)

  pub births-ended : Ok None ≡ next_of (next_from vertices run (drop at bs)) → counted many pairs (births_read_from (length bs - many) vertices run (drop at bs)) ≡ Ok (record { births = many; pairs = pairs })
  unfolding and_then
  births-ended e =
      let n = next-ended (next_from vertices run (drop at bs)) e in
      ap (counted many pairs) step ∙ rw n.1 (two-of _ _ _ _ (omega arith) (omega arith))

  module _ (born : Born) (e : Ok (Some born) ≡ next_of (next_from vertices run (drop at bs))) where
    found : IsOne (next_from vertices run (drop at bs)) born
    found = next_one (next_from vertices run (drop at bs)) born e

    left : (6 ≤ length bs - at) × BirthRest bs (at + 6) found.b found.s
    left = next-rest vertices run bs at found.b found.s found.is

    pub birth-inside : at + 14 + born.count * 6 ≤ length bs
    birth-inside =
        let q = ap (λ (x : ℕ). x * 6) found.count in
        omega (arith, left.0, left.1.inside)

    rest-is : found.s ≡ drop (at + 14 + born.count * 6) bs
    rest-is =
        let q = ap (λ (x : ℕ). x * 6) found.count in
        left.1.rest ∙ ap (λ (x : ℕ). drop x bs) {x = at + 6 + (8 + found.b.count * 6)} {y = at + 14 + born.count * 6} (omega arith)

    run_is : more run found.b.number found.b.r ≡ more run born.number born.r
    run_is = ap (λ (x : ℕ). more run x found.b.r) found.number ∙ ap (λ (x : ℕ). more run born.number x) found.refinement

    pub births-more : (next : Run) → next ≡ more run born.number born.r →
        counted many pairs (births_read_from (length bs - many) vertices run (drop at bs)) ≡ counted (many + 1) (pairs + born.count) (births_read_from (length bs - (many + 1)) vertices next (drop (at + 14 + born.count * 6) bs))
    unfolding and_then
    births-more next q =
        let f = length bs - (many + 1) in
        ap (counted many pairs) step
        ∙ rw found.is
        (counted-more many pairs found.b (births_read_from f vertices (more run found.b.number found.b.r) found.s) left.1.long
        ∙ ap (λ (x : ℕ). counted (many + 1) (pairs + x) (births_read_from f vertices (more run found.b.number found.b.r) found.s)) found.count
        ∙ ap (λ (x : Run). counted (many + 1) (pairs + born.count) (births_read_from f vertices x found.s)) (run_is ∙ sym q)
        ∙ ap (λ (x : List ℕ). counted (many + 1) (pairs + born.count) (births_read_from f vertices next x)) rest-is)
