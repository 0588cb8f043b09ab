-- What was read was written: a file that is read is the file of its mesh, which keeps the rules. Assumes nothing.
use Rattle.refusal.specs.declared.Refusal.TheVariants.{UnknownKind}
use mathlib.Core.Path.{◌≡◌, refl, sym, ap, subst, ◌∙◌}
use mathlib.Core.Bool.{Bool, true, false, cond, ◌&&◌, false≢true}
use mathlib.Core.List.{List, [], ◌∷◌, ◌++◌, append_assoc, append-nil}
use Prim.Native.Nat.{ℕ, zero, suc, ◌+◌, ◌*◌, ◌-◌, ◌/◌, ◌%◌, ◌<◌}
use native.Mathlib.Nat.{suc-mul, mul-mod_left, div-eq_of_eq-mul_left}
use native.Mathlib.Omega.{arith}
use lib.ListN.{length, take, drop, length-append}
use lib.Seq.{take_at, drop_at}
use lib.Dec.{leb, eqb}
use borrow.Author.Tests.{eqb-true, le-leb, eq-eqb}
use Rattle.lists.proofs.Members.{All, All-append}
use Rattle.file_bytes.specs.Bytes.{little, fours}
use Rattle.file_bytes.proofs.Laws.{Bytes, Four, little-length, fours-length}
use Rattle.file_mesh.specs.declared.Run.{Run}
use Rattle.file_mesh.specs.Mesh.{Mesh, past}
use Rattle.file_mesh.specs.Rules.{no_birth, more, follows, rise, number_fits, refinement_fits, count_fits, vertex_fits, weight_fits, run_ends, pairs_fit, weights_of, birth_fits, births_fit, rules}
use Rattle.file_mesh.specs.File.{record_of, header_of, word_of, words_of, pairs_of, birth_of, births_of, end_of, file_of}
use Rattle.file_mesh.specs.Read.{got, and_then, asked, number, field, numbers, Opening, opening_from, Header, header_from, word_from, words_from, pairs_from, Birth, birth_from, Births, no_births, with_birth, births_read_from, nothing, read_file}
use Rattle.file_mesh.proofs.Parts.{both, and_both, refused-not, Then, then-inv, asked-inv, cond-inv, same-part, number-came, Passed, field-came, numbers-came}
use Rattle.file_mesh.proofs.Written.{Held, Fits, body_of, body-long, body-before}

-- ---- records

pub record Opened (o : Opening) (bs r : List ℕ) : Type 0 where
  pub whole : bs ≡ little 4 o.len ++ (little 2 o.kind ++ r)
  pub bytes : Bytes r

pub opening-came : (o : Opening) (bs r : List ℕ) → opening_from bs ≡ got o r → Bytes bs → Opened o bs r
unfolding opening_from
opening-came o bs r e a =
    let i = then-inv (field 4 (λ n. leb 2 n) bs) _ o r e in
    let f = field-came 4 (λ n. leb 2 n) i.x bs i.r i.part a in
    let j = then-inv (number 2 i.r) _ o r i.next in
    let g = number-came 2 j.x i.r j.r j.part f.came.bytes in
    let k = cond-inv (leb 1 j.x && leb j.x 4) UnknownKind _ o r j.next in
    let s = same-part k.1 in
    let w : bs ≡ little 4 i.x ++ (little 2 j.x ++ j.r) = f.came.whole ∙ ap (λ (l : List ℕ). little 4 i.x ++ l) g.whole in
    subst (λ (p : Opening). Opened p bs r) s.0
    (subst (λ (t : List ℕ). Opened (record { len = i.x; kind = j.x }) bs t) s.1 (record { whole = w; bytes = g.bytes }))

-- an opening whose length fits what follows it is a record's
pub record-came : (o : Opening) (bs r : List ℕ) (kind : ℕ) (body t : List ℕ) → Opened o bs r → o.kind ≡ kind → o.len ≡ 2 + length body → r ≡ body ++ t →
    bs ≡ record_of kind body ++ t
unfolding record_of
record-came o bs r kind body t w k l e =
    w.whole
    ∙ ap (λ (x : ℕ). little 4 x ++ (little 2 o.kind ++ r)) l
    ∙ ap (λ (x : ℕ). little 4 (2 + length body) ++ (little 2 x ++ r)) k
    ∙ ap (λ (x : List ℕ). little 4 (2 + length body) ++ (little 2 kind ++ x)) e
    ∙ ap (λ (x : List ℕ). little 4 (2 + length body) ++ x) (sym (append_assoc (little 2 kind) body t))
    ∙ sym (append_assoc (little 4 (2 + length body)) (little 2 kind ++ body) t)

pub record HeaderCame (h : Header) (bs r : List ℕ) : Type 0 where
  pub whole : bs ≡ header_of h.d h.count ++ r
  pub dimension : h.d < 65536
  pub few : h.count < 65536
  pub bytes : Bytes r

pub header-came : (h : Header) (bs r : List ℕ) → header_from bs ≡ got h r → Bytes bs → HeaderCame h bs r
unfolding header_from header_of
header-came h bs r e a =
    let i = then-inv (opening_from bs) _ h r e in
    let o = opening-came i.x bs i.r i.part a in
    let q = asked-inv (eqb i.x.kind 1 && eqb i.x.len 6) _ h r i.next in
    let j = then-inv (number 2 i.r) _ h r q.1 in
    let f = number-came 2 j.x i.r j.r j.part o.bytes in
    let k = then-inv (number 2 j.r) _ h r j.next in
    let g = number-came 2 k.x j.r k.r k.part f.bytes in
    let s = same-part k.next in
    let body = little 2 j.x ++ little 2 k.x in
    let w : i.r ≡ body ++ k.r = f.whole ∙ ap (λ (l : List ℕ). little 2 j.x ++ l) g.whole ∙ sym (append_assoc (little 2 j.x) (little 2 k.x) k.r) in
    let l : i.x.len ≡ 2 + length body =
    omega (arith, eqb-true i.x.len 6 (both (eqb i.x.kind 1) (eqb i.x.len 6) q.0).1, length-append (little 2 j.x) (little 2 k.x), little-length 2 j.x, little-length 2 k.x) in
    subst (λ (p : Header). HeaderCame p bs r) s.0
    (subst (λ (t : List ℕ). HeaderCame (record { d = j.x; count = k.x }) bs t) s.1
    (record {
      whole = record-came i.x bs i.r 1 body k.r o (eqb-true i.x.kind 1 (both (eqb i.x.kind 1) (eqb i.x.len 6) q.0).0) l w;
      dimension = f.small;
      few = g.small;
      bytes = g.bytes;
    }))

-- ---- words

pub record WordCame (d : ℕ) (before w bs r : List ℕ) : Type 0 where
  pub whole : bs ≡ word_of w ++ r
  pub long : length w ≡ d + 1
  pub small : All Four w
  pub fits : follows d before w ≡ true
  pub bytes : Bytes r

pub word-came : (d : ℕ) (before w bs r : List ℕ) → word_from d before bs ≡ got w r → Bytes bs → WordCame d before w bs r
unfolding word_from word_of
word-came d before w bs r e a =
    let i = then-inv (opening_from bs) _ w r e in
    let o = opening-came i.x bs i.r i.part a in
    let q = asked-inv (eqb i.x.kind 2 && eqb i.x.len (2 + (d + 1) * 4)) _ w r i.next in
    let j = then-inv (numbers (d + 1) i.r) _ w r q.1 in
    let n = numbers-came (d + 1) j.x i.r j.r j.part o.bytes in
    let k = asked-inv (follows d before j.x) (got j.x j.r) w r j.next in
    let s = same-part k.1 in
    let l : i.x.len ≡ 2 + length (fours j.x) = omega (arith, eqb-true i.x.len (2 + (d + 1) * 4) (both (eqb i.x.kind 2) (eqb i.x.len (2 + (d + 1) * 4)) q.0).1, fours-length j.x, n.long) in
    subst (λ (p : List ℕ). WordCame d before p bs r) s.0
    (subst (λ (t : List ℕ). WordCame d before j.x bs t) s.1
    (record {
      whole = record-came i.x bs i.r 2 (fours j.x) j.r o (eqb-true i.x.kind 2 (both (eqb i.x.kind 2) (eqb i.x.len (2 + (d + 1) * 4)) q.0).0) l n.whole;
      long = n.long;
      small = n.small;
      fits = k.0;
      bytes = n.bytes;
    }))

pub record WordsCame (d count : ℕ) (before ws bs r : List ℕ) : Type 0 where
  pub whole : bs ≡ words_of d count ws ++ r
  pub long : length ws ≡ count * (d + 1)
  pub small : All Four ws
  pub rises : rise d count before ws ≡ true
  pub bytes : Bytes r

-- a word before others
words_more : (d count : ℕ) (before w ws bs r t : List ℕ) → WordCame d before w bs r → WordsCame d count w ws r t → WordsCame d (suc count) before (w ++ ws) bs t
unfolding words_of rise
words_more d count before w ws bs r t a b =
    let p : take (d + 1) (w ++ ws) ≡ w = take_at w ws (d + 1) a.long in
    let q : drop (d + 1) (w ++ ws) ≡ ws = drop_at w ws (d + 1) a.long in
    record {
      whole = a.whole ∙ ap (λ (l : List ℕ). word_of w ++ l) b.whole ∙ sym (append_assoc (word_of w) (words_of d count ws) t)
          ∙ ap (λ (l : List ℕ). (word_of w ++ words_of d count l) ++ t) (sym q) ∙ ap (λ (l : List ℕ). (word_of l ++ words_of d count (drop (d + 1) (w ++ ws))) ++ t) (sym p);
      long = length-append w ws ∙ omega (arith, a.long, b.long, suc-mul count (d + 1));
      small = All-append Four w ws a.small b.small;
      rises = rw (p, q) (and_both a.fits b.rises);
      bytes = b.bytes;
    }

pub words-came : (d count : ℕ) (before ws bs r : List ℕ) → words_from d count before bs ≡ got ws r → Bytes bs → WordsCame d count before ws bs r
unfolding words_from words_of rise
words-came d zero before ws bs r e a =
    let s = same-part e in
    subst (λ (l : List ℕ). WordsCame d zero before l bs r) s.0
    (subst (λ (t : List ℕ). WordsCame d zero before [] bs t) s.1
    (record { whole = refl; long = omega arith; small = tt; rises = refl; bytes = a }))
words-came d (suc count) before ws bs r e a =
    let i = then-inv (word_from d before bs) _ ws r e in
    let f = word-came d before i.x bs i.r i.part a in
    let j = then-inv (words_from d count i.x i.r) _ ws r i.next in
    let g = words-came d count i.x j.x i.r j.r j.part f.bytes in
    let s = same-part j.next in
    subst (λ (l : List ℕ). WordsCame d (suc count) before l bs r) s.0
    (subst (λ (t : List ℕ). WordsCame d (suc count) before (i.x ++ j.x) bs t) s.1
    (words_more d count before i.x j.x bs i.r j.r f g))

-- ---- births

pub record PairsCame (first low c : ℕ) (ps bs r : List ℕ) : Type 0 where
  pub whole : bs ≡ pairs_of ps ++ r
  pub long : length ps ≡ c + c
  pub fits : pairs_fit first low ps ≡ true
  pub bytes : Bytes r

pairs-more : (first low c v w : ℕ) (ps bs q s t : List ℕ) → Passed 4 (vertex_fits first low) v bs q → Passed 2 weight_fits w q s → PairsCame first (suc v) c ps s t →
    PairsCame first low (suc c) (v ∷ (w ∷ ps)) bs t
unfolding pairs_of pairs_fit
pairs-more first low c v w ps bs q s t a b p =
    record {
      whole = a.came.whole ∙ ap (λ (l : List ℕ). little 4 v ++ l) (b.came.whole ∙ ap (λ (l : List ℕ). little 2 w ++ l) p.whole ∙ sym (append_assoc (little 2 w) (pairs_of ps) t))
          ∙ sym (append_assoc (little 4 v) (little 2 w ++ pairs_of ps) t);
      long = omega (arith, p.long);
      fits = and_both a.fits (and_both b.fits p.fits);
      bytes = p.bytes;
    }

pub pairs-came : (first low c : ℕ) (ps bs r : List ℕ) → pairs_from first low c bs ≡ got ps r → Bytes bs → PairsCame first low c ps bs r
unfolding pairs_from pairs_of pairs_fit
pairs-came first low zero ps bs r e a =
    let s = same-part e in
    subst (λ (l : List ℕ). PairsCame first low zero l bs r) s.0
    (subst (λ (t : List ℕ). PairsCame first low zero [] bs t) s.1
    (record { whole = refl; long = refl; fits = refl; bytes = a }))
pairs-came first low (suc c) ps bs r e a =
    let i = then-inv (field 4 (vertex_fits first low) bs) _ ps r e in
    let f = field-came 4 (vertex_fits first low) i.x bs i.r i.part a in
    let j = then-inv (field 2 weight_fits i.r) _ ps r i.next in
    let g = field-came 2 weight_fits j.x i.r j.r j.part f.came.bytes in
    let k = then-inv (pairs_from first (suc i.x) c j.r) _ ps r j.next in
    let h = pairs-came first (suc i.x) c k.x j.r k.r k.part g.came.bytes in
    let s = same-part k.next in
    subst (λ (l : List ℕ). PairsCame first low (suc c) l bs r) s.0
    (subst (λ (t : List ℕ). PairsCame first low (suc c) (i.x ∷ (j.x ∷ k.x)) bs t) s.1
    (pairs-more first low c i.x j.x k.x bs i.r j.r k.r f g h))

pub record BirthCame (vertices : ℕ) (run : Run) (len : ℕ) (b : Birth) (bs r : List ℕ) : Type 0 where
  pub whole : bs ≡ body_of b.number b.r b.count b.pairs ++ r
  pub len_is : len ≡ 10 + b.count * 6
  pub fits : Fits vertices run b.number b.r b.count b.pairs
  pub bytes : Bytes r

pub birth-came : (vertices : ℕ) (run : Run) (len : ℕ) (b : Birth) (bs r : List ℕ) → birth_from vertices run len bs ≡ got b r → Bytes bs → BirthCame vertices run len b bs r
unfolding birth_from
birth-came vertices run len b bs r e a =
    let i = then-inv (field 4 (number_fits vertices run) bs) _ b r e in
    let fi = field-came 4 (number_fits vertices run) i.x bs i.r i.part a in
    let j = then-inv (field 2 (refinement_fits run) i.r) _ b r i.next in
    let fj = field-came 2 (refinement_fits run) j.x i.r j.r j.part fi.came.bytes in
    let k = then-inv (field 2 (λ c. count_fits c && eqb len (10 + c * 6)) j.r) _ b r j.next in
    let fk = field-came 2 (λ c. count_fits c && eqb len (10 + c * 6)) k.x j.r k.r k.part fj.came.bytes in
    let p = then-inv (pairs_from (more run i.x j.x).first 0 k.x k.r) _ b r k.next in
    let fp = pairs-came (more run i.x j.x).first 0 k.x p.x k.r p.r p.part fk.came.bytes in
    let q = asked-inv (eqb (weights_of p.x) j.x) _ b r p.next in
    let s = same-part q.1 in
    let w : bs ≡ little 4 i.x ++ (little 2 j.x ++ (little 2 k.x ++ (pairs_of p.x ++ p.r))) =
    fi.came.whole ∙ ap (λ (l : List ℕ). little 4 i.x ++ l) (fj.came.whole ∙ ap (λ (l : List ℕ). little 2 j.x ++ l) (fk.came.whole ∙ ap (λ (l : List ℕ). little 2 k.x ++ l) fp.whole)) in
    subst (λ (l : Birth). BirthCame vertices run len l bs r) s.0
    (subst (λ (t : List ℕ). BirthCame vertices run len (record { number = i.x; r = j.x; count = k.x; pairs = p.x }) bs t) s.1
    (record {
      whole = w ∙ sym (body-before i.x j.x k.x p.x p.r);
      len_is = eqb-true len (10 + k.x * 6) (both (count_fits k.x) (eqb len (10 + k.x * 6)) fk.fits).1;
      fits = record {
        number = fi.fits;
        refinement = fj.fits;
        count = (both (count_fits k.x) (eqb len (10 + k.x * 6)) fk.fits).0;
        long = fp.long;
        pairs = fp.fits;
        sum = eqb-true (weights_of p.x) j.x q.0;
      };
      bytes = fp.bytes;
    }))

-- the test over a birth's own pairs is the test where other pairs follow
fits-before : (vertices : ℕ) (run : Run) (n r c : ℕ) (ps more-pairs : List ℕ) → Fits vertices run n r c ps → birth_fits vertices run n r c (ps ++ more-pairs) ≡ true
unfolding birth_fits
fits-before vertices run n r c ps more-pairs f =
    let t : take (c + c) (ps ++ more-pairs) ≡ ps = take_at ps more-pairs (c + c) f.long in
    rw t
    (and_both f.number (and_both f.refinement (and_both f.count (and_both
    (le-leb (c + c) (length (ps ++ more-pairs)) (omega (arith, length-append ps more-pairs, f.long)))
    (and_both f.pairs (eq-eqb (weights_of ps) r f.sum))))))

pub record BirthsCame (vertices : ℕ) (run : Run) (l : Births) (bs r : List ℕ) : Type 0 where
  pub whole : bs ≡ births_of l.births l.pairs ++ end_of
  pub fits : births_fit vertices run l.births l.pairs ≡ true
  pub over : r ≡ []

births-more : (vertices : ℕ) (run : Run) (b : Birth) (l : Births) (bs r t : List ℕ) → bs ≡ birth_of b.number b.r b.count b.pairs ++ r →
    Fits vertices run b.number b.r b.count b.pairs → BirthsCame vertices (more run b.number b.r) l r t → BirthsCame vertices run (with_birth b l) bs t
unfolding births_of births_fit
births-more vertices run b l bs r t e f g =
    let c = b.count in
    let p : take (c + c) (b.pairs ++ l.pairs) ≡ b.pairs = take_at b.pairs l.pairs (c + c) f.long in
    let q : drop (c + c) (b.pairs ++ l.pairs) ≡ l.pairs = drop_at b.pairs l.pairs (c + c) f.long in
    record {
      whole = e ∙ ap (λ (x : List ℕ). birth_of b.number b.r c b.pairs ++ x) g.whole
          ∙ sym (append_assoc (birth_of b.number b.r c b.pairs) (births_of l.births l.pairs) end_of)
          ∙ ap (λ (x : List ℕ). (birth_of b.number b.r c x ++ births_of l.births l.pairs) ++ end_of) (sym p)
          ∙ ap (λ (x : List ℕ). (birth_of b.number b.r c (take (c + c) (b.pairs ++ l.pairs)) ++ births_of l.births x) ++ end_of) (sym q);
      fits = rw q (and_both (fits-before vertices run b.number b.r c b.pairs l.pairs f) g.fits);
      over = g.over;
    }

nothing-nil : (r : List ℕ) → nothing r ≡ true → r ≡ []
unfolding nothing
nothing-nil [] e = refl
nothing-nil (x ∷ r) e = absurd (false≢true e)

births-end : (vertices : ℕ) (run : Run) (o : Opening) (bs r : List ℕ) → Opened o bs r → o.kind ≡ 4 → (eqb o.len 2 && (run_ends vertices run && nothing r)) ≡ true →
    BirthsCame vertices run no_births bs r
unfolding births_of births_fit end_of
births-end vertices run o bs r w k q =
    let a = both (eqb o.len 2) (run_ends vertices run && nothing r) q in
    let b = both (run_ends vertices run) (nothing r) a.1 in
    let n = nothing-nil r b.1 in
    record {
      whole = record-came o bs r 4 [] [] w k (eqb-true o.len 2 a.0) n ∙ append-nil (record_of 4 []);
      fits = b.0;
      over = n;
    }

-- one record more, where the records after it are read as they were written
module _ (most vertices : ℕ) (run : Run) (l : Births) (bs r : List ℕ)
    (rest : (run' : Run) (k : Births) (q t : List ℕ) → births_read_from most vertices run' q ≡ got k t → Bytes q → BirthsCame vertices run' k q t) where
  births-after : (o : Opening) (q : List ℕ) → Opened o bs q → o.kind ≡ 3 →
      Then (birth_from vertices run o.len q) (λ b s. and_then (births_read_from most vertices (more run b.number b.r) s) (λ k t. got (with_birth b k) t)) l r →
      BirthsCame vertices run l bs r
  unfolding birth_of
  births-after o q w three i =
      let f = birth-came vertices run o.len i.x q i.r i.part w.bytes in
      let j = then-inv (births_read_from most vertices (more run i.x.number i.x.r) i.r) _ l r i.next in
      let g = rest (more run i.x.number i.x.r) j.x i.r j.r j.part f.bytes in
      let s = same-part j.next in
      let len : o.len ≡ 2 + length (body_of i.x.number i.x.r i.x.count i.x.pairs) =
      f.len_is ∙ sym (body-long i.x.number i.x.r i.x.count i.x.pairs f.fits.long) in
      let e = record-came o bs q 3 (body_of i.x.number i.x.r i.x.count i.x.pairs) i.r w three len f.whole in
      subst (λ (k : Births). BirthsCame vertices run k bs r) s.0
      (subst (λ (k : List ℕ). BirthsCame vertices run (with_birth i.x j.x) bs k) s.1
      (births-more vertices run i.x j.x bs i.r j.r e f.fits g))

  births-next : (o : Opening) (q : List ℕ) → Opened o bs q → (t : Bool) → eqb o.kind 4 ≡ t →
      cond t (asked (eqb o.len 2 && (run_ends vertices run && nothing q)) (got no_births q))
      (asked (eqb o.kind 3 && (leb 10 o.len && eqb ((o.len - 10) % 6) 0))
      (and_then (birth_from vertices run o.len q) (λ b s. and_then (births_read_from most vertices (more run b.number b.r) s) (λ k t. got (with_birth b k) t)))) ≡ got l r →
      BirthsCame vertices run l bs r
  births-next o q w true k e =
      let x = asked-inv (eqb o.len 2 && (run_ends vertices run && nothing q)) (got no_births q) l r e in
      let s = same-part x.1 in
      subst (λ (m : Births). BirthsCame vertices run m bs r) s.0
      (subst (λ (m : List ℕ). BirthsCame vertices run no_births bs m) s.1 (births-end vertices run o bs q w (eqb-true o.kind 4 k) x.0))
  births-next o q w false k e =
      let x = asked-inv (eqb o.kind 3 && (leb 10 o.len && eqb ((o.len - 10) % 6) 0)) _ l r e in
      births-after o q w (eqb-true o.kind 3 (both (eqb o.kind 3) (leb 10 o.len && eqb ((o.len - 10) % 6) 0) x.0).0) (then-inv (birth_from vertices run o.len q) _ l r x.1)

pub births-came : (most vertices : ℕ) (run : Run) (l : Births) (bs r : List ℕ) → births_read_from most vertices run bs ≡ got l r → Bytes bs → BirthsCame vertices run l bs r
unfolding births_read_from
births-came zero vertices run l bs r e a = absurd (refused-not e)
births-came (suc most) vertices run l bs r e a =
    let i = then-inv (opening_from bs) _ l r e in
    births-next most vertices run l bs r (births-came most vertices) i.x i.r (opening-came i.x bs i.r i.part a) (eqb i.x.kind 4) refl i.next

-- ---- the file

-- a file that was read: it is the file of its mesh, whose lists it has room for, and which keeps the rules
pub record Accepted (m : Mesh) (bs : List ℕ) : Type 0 where
  pub whole : bs ≡ file_of m
  pub held : Held m
  pub kept : rules m ≡ true

pub read-written : (m : Mesh) (bs r : List ℕ) → Bytes bs → read_file bs ≡ got m r → Accepted m bs
unfolding read_file file_of
read-written m bs r a e =
    let i = then-inv (header_from bs) _ m r e in
    let f = header-came i.x bs i.r i.part a in
    let j = then-inv (words_from i.x.d i.x.count [] i.r) _ m r i.next in
    let g = words-came i.x.d i.x.count [] j.x i.r j.r j.part f.bytes in
    let k = then-inv (births_read_from (length bs) (past j.x) no_birth j.r) _ m r j.next in
    let h = births-came (length bs) (past j.x) no_birth k.x j.r k.r k.part g.bytes in
    let s = same-part k.next in
    let n : length j.x / (i.x.d + 1) ≡ i.x.count = div-eq_of_eq-mul_left {n = i.x.d + 1} {m = length j.x} {k = i.x.count} (omega arith) g.long in
    subst (λ (x : Mesh). Accepted x bs) s.0
    (record {
      whole = f.whole ∙ ap (λ (l : List ℕ). header_of i.x.d i.x.count ++ l) (g.whole ∙ ap (λ (l : List ℕ). words_of i.x.d i.x.count j.x ++ l) h.whole)
          ∙ ap (λ (c : ℕ). header_of i.x.d c ++ (words_of i.x.d c j.x ++ (births_of k.x.births k.x.pairs ++ end_of))) (sym n);
      held = record {
        dimension = f.dimension;
        whole = ap (λ (x : ℕ). x % (i.x.d + 1)) g.long ∙ mul-mod_left i.x.count (i.x.d + 1);
        few = subst (λ (x : ℕ). x < 65536) (sym n) f.few;
        small = g.small;
      };
      kept = and_both (ap (λ (c : ℕ). rise i.x.d c [] j.x) n ∙ g.rises) h.fits;
    })
