-- The whole file: its header, its words, and its births. Assumes nothing.
use Rattle.refusal.specs.declared.Refusal.{Refusal}
use Rattle.std.specs.Prelude.{Ok, Err}
use mathlib.Core.Path.{◌≡◌, refl, sym, ap, ◌∙◌}
use mathlib.Core.Bool.{◌&&◌}
use mathlib.Core.List.{List, []}
use Prim.Native.Nat.{ℕ, zero, suc, ◌+◌, ◌*◌, ◌/◌, ◌≤◌}
use native.Mathlib.Nat.{suc-mul, div-eq_of_eq-mul_left}
use native.Mathlib.Omega.{arith}
use lib.ListN.{length, drop, length-append}
use lib.Dec.{eqb}
use Rattle.file_bytes.proofs.Laws.{fours_of-length}
use Rattle.file_mesh.specs.Mesh.{Mesh, past}
use Rattle.file_mesh.specs.Rules.{no_birth}
use Rattle.file_mesh.specs.Read.{Part, no, got, and_then, number, opening_from, Header, header_from, word_from, words_from, Births, births_read_from, read_file}
use Rattle.file_mesh.proofs.Parts.{same-part, then-inv, asked-inv}
use Rattle.file_mesh_read.specs.declared.Headed.{Headed}
use Rattle.file_mesh_read.specs.declared.Counts.{Counts}
use Rattle.file_mesh_read.specs.Work.{headed_of, worded_of, counts_of, scanned_of}
use Rattle.file_mesh_read.proofs.Parts.{number-inv, opening-rest}
use Rattle.file_mesh_read.proofs.Turns.{word-rest}

-- ---- the header

pub headed-no : (p : Part Header) (why : Refusal) → Err why ≡ headed_of p → p ≡ no why
headed-no (no other) why e = cc
headed-no (got h r) why e = cc

headed-of : (p : Part Header) (h : Headed) → Ok h ≡ headed_of p → (r : List ℕ) × (p ≡ got (record { d = h.d; count = h.count }) r)
headed-of (no why) h e = cc
headed-of (got x r) h e =
    let q : record { d = x.d; count = x.count } ≡ h = cc in
    (r, ap (λ (y : Headed). got (record { d = y.d; count = y.count }) r) q)

pub header-rest : (bs : List ℕ) (h : Header) (r : List ℕ) → header_from bs ≡ got h r → (10 ≤ length bs) × (r ≡ drop 10 bs)
unfolding header_from
header-rest bs h r e =
    let i = then-inv (opening_from bs) _ h r e in
    let o = opening-rest bs 0 i.x i.r i.part in
    let j = asked-inv (eqb i.x.kind 1 && eqb i.x.len 6) _ h r i.next in
    let k = then-inv (number 2 i.r) _ h r j.1 in
    let f = number-inv bs 6 2 k.x k.r (ap (number 2) (sym o.1) ∙ k.part) in
    let m = then-inv (number 2 k.r) _ h r k.next in
    let g = number-inv bs 8 2 m.x m.r (ap (number 2) (sym f.1) ∙ m.part) in
    let s = same-part m.next in
    (omega (arith, o.0, f.0, g.0), sym s.1 ∙ g.1)

pub record HeadedAt (bs : List ℕ) (d c : ℕ) : Type 0 where
  pub inside : 10 ≤ length bs
  pub is : header_from bs ≡ got (record { d = d; count = c }) (drop 10 bs)

pub headed-at : (bs : List ℕ) (h : Headed) → Ok h ≡ headed_of (header_from bs) → HeadedAt bs h.d h.count
headed-at bs h e =
    let p = headed-of (header_from bs) h e in
    let q = header-rest bs (record { d = h.d; count = h.count }) p.0 p.1 in
    record { inside = q.0; is = p.1 ∙ ap (λ (r : List ℕ). got (record { d = h.d; count = h.count }) r) q.1 }

-- ---- the words

pub record WordsRest (d count at : ℕ) (bs ws r : List ℕ) : Type 0 where
  pub inside : at + count * (10 + 4 * d) ≤ length bs
  pub rest : r ≡ drop (at + count * (10 + 4 * d)) bs
  pub long : length ws ≡ count * (d + 1)

pub words-rest : (d count at : ℕ) (before bs ws r : List ℕ) → at ≤ length bs → words_from d count before (drop at bs) ≡ got ws r → WordsRest d count at bs ws r
unfolding words_from
words-rest d zero at before bs ws r a e =
    let s = same-part e in
    record { inside = omega arith; rest = sym s.1 ∙ ap (λ (n : ℕ). drop n bs) {x = at} {y = at + 0 * (10 + 4 * d)} (omega arith); long = ap length (sym s.0) ∙ omega arith }
words-rest d (suc count) at before bs ws r a e =
    let i = then-inv (word_from d before (drop at bs)) _ ws r e in
    let f = word-rest d before bs at i.x i.r i.part in
    let j = then-inv (words_from d count i.x i.r) _ ws r i.next in
    let g = words-rest d count (at + (6 + (d + 1) * 4)) i.x bs j.x j.r (omega (arith, f.0)) (ap (words_from d count i.x) (sym f.2) ∙ j.part) in
    let s = same-part j.next in
    let m = suc-mul count (10 + 4 * d) in
    let n = suc-mul count (d + 1) in
    record {
      inside = omega (arith, g.inside);
      rest = sym s.1 ∙ g.rest ∙ ap (λ (x : ℕ). drop x bs) {x = at + (6 + (d + 1) * 4) + count * (10 + 4 * d)} {y = at + suc count * (10 + 4 * d)} (omega arith);
      long = ap length (sym s.0) ∙ length-append i.x j.x ∙ omega (arith, ap length f.1, fours_of-length (d + 1) (drop (at + 6) bs), g.long);
    }

pub worded-no : (p : Part (List ℕ)) (why : Refusal) → Err why ≡ worded_of p → p ≡ no why
worded-no (no other) why e = cc
worded-no (got ws r) why e = cc

pub record WordedAt (d count : ℕ) (bs : List ℕ) (v : ℕ) : Type 0 where
  pub ws : List ℕ
  pub is : words_from d count [] (drop 10 bs) ≡ got ws (drop (10 + count * (10 + 4 * d)) bs)
  pub top : past ws ≡ v
  pub inside : 10 + count * (10 + 4 * d) ≤ length bs
  pub long : length ws ≡ count * (d + 1)

worded-of : (p : Part (List ℕ)) (v : ℕ) → Ok v ≡ worded_of p → (ws : List ℕ) × (r : List ℕ) × (p ≡ got ws r) × (past ws ≡ v)
worded-of (no why) v e = cc
worded-of (got ws r) v e = (ws, r, refl, cc)

pub worded-at : (d count : ℕ) (bs : List ℕ) (v : ℕ) → 10 ≤ length bs → Ok v ≡ worded_of (words_from d count [] (drop 10 bs)) → WordedAt d count bs v
worded-at d count bs v h e =
    let p = worded-of (words_from d count [] (drop 10 bs)) v e in
    let w = words-rest d count 10 [] bs p.0 p.1 h p.2 in
    record { ws = p.0; is = p.2 ∙ ap (λ (r : List ℕ). got p.0 r) w.rest; top = p.3; inside = w.inside; long = w.long }

-- ---- the file

pub scan-header : (bs : List ℕ) (why : Refusal) → header_from bs ≡ no why → scanned_of (read_file bs) ≡ Err why
unfolding read_file and_then
scan-header bs why e = rw e

module _ (bs : List ℕ) (d count : ℕ) (h : HeadedAt bs d count) where
  pub scan-words : (why : Refusal) → words_from d count [] (drop 10 bs) ≡ no why → scanned_of (read_file bs) ≡ Err why
  unfolding read_file and_then
  scan-words why e = rw (h.is, e)

  module _ (v : ℕ) (w : WordedAt d count bs v) where
    abbrev births : Part Births
    births = births_read_from (length bs) v no_birth (drop (10 + count * (10 + 4 * d)) bs)

    cells : length w.ws / (d + 1) ≡ count
    cells = div-eq_of_eq-mul_left {n = d + 1} {m = length w.ws} {k = count} (omega arith) w.long

    finished : Part Births → Part Mesh
    finished p = and_then p (λ l t. got (record { d = d; words = w.ws; births = l.births; pairs = l.pairs }) t)

    file-is : read_file bs ≡ finished births
    unfolding read_file and_then finished
    file-is = rw (h.is, w.is, w.top)

    pub scan-no : (why : Refusal) → Err why ≡ counts_of births → scanned_of (read_file bs) ≡ Err why
    unfolding finished and_then
    scan-no why e = ap scanned_of file-is ∙ go births e
      where
        go : (p : Part Births) → Err why ≡ counts_of p → scanned_of (finished p) ≡ Err why
        go (no other) q = cc
        go (got l t) q = cc

    pub scan-of : (c : Counts) → Ok c ≡ counts_of births → scanned_of (read_file bs) ≡ Ok (record { d = d; count = count; births = c.births; pairs = c.pairs })
    unfolding finished and_then
    scan-of c e = ap scanned_of file-is ∙ go births e
      where
        go : (p : Part Births) → Ok c ≡ counts_of p → scanned_of (finished p) ≡ Ok (record { d = d; count = count; births = c.births; pairs = c.pairs })
        go (no why) q = cc
        go (got l t) q =
            let x : record { births = length l.births / 3; pairs = length l.pairs / 2 } ≡ c = cc in
            ap (λ (n : ℕ). Ok (record { d = d; count = n; births = length l.births / 3; pairs = length l.pairs / 2 })) cells
            ∙ ap (λ (y : Counts). Ok (record { d = d; count = count; births = y.births; pairs = y.pairs })) x
