-- What a file that was read gives: its lists as they stand in its bytes, and how long they are. Assumes nothing.
use Rattle.refusal.specs.declared.Refusal.{Refusal}
use Rattle.refusal.specs.declared.Refusal.TheVariants.{TooShort}
use Rattle.std.specs.Prelude.{Err, Ok}
use mathlib.Core.Path.{◌≡◌, refl, sym, ap, subst, ◌∙◌}
use mathlib.Core.List.{List, [], ◌++◌}
use Prim.Native.Nat.{ℕ, ◌+◌, ◌*◌, ◌/◌, ◌≤◌, ◌<◌}
use native.Mathlib.Nat.{div-eq_of_eq-mul_left, mul_assoc, mul-le-mul}
use native.Mathlib.Omega.{arith}
use lib.ListN.{length, take, drop}
use lib.Seq.{length-take-le}
use Rattle.refusal.specs.Limits.{most_vertices, most_refinement}
use Rattle.complex.specs.Check.{answer_of, Passed}
use Rattle.file_mesh.specs.Mesh.{Mesh, past}
use Rattle.file_mesh.specs.Rules.{no_birth}
use Rattle.file_mesh.specs.Read.{Part, no, got, header_from, words_from, Births, births_read_from, read_file}
use Rattle.file_mesh.proofs.Parts.{same-part, then-inv}
use Rattle.file_mesh_write.proofs.Sizes.{past-largest}
use Rattle.file_mesh_read.specs.declared.Scanned.{Scanned}
use Rattle.file_mesh_read.specs.declared.Reading.{Reading}
use Rattle.file_mesh_read.specs.Promise.{reading, mesh_in, refused_in, none, Gives, words_short, births_short, pairs_short, read}
use Rattle.file_mesh_read.specs.Work.{scanned_of, words_in, births_in, end_in, Taking, Handing}
use Rattle.file_mesh_read.proofs.Whole.{header-rest, words-rest}
use Rattle.file_mesh_read.proofs.Listed.{words_are}
use Rattle.file_mesh_read.proofs.Standing.{births-are}

-- where the births of a file begin
abbrev pub births_at : ℕ → ℕ → ℕ
births_at d count = 10 + count * (10 + 4 * d)

pub record FileGives (bs : List ℕ) (m : Mesh) (d count many weights : ℕ) : Type 0 where
  pub dimension : m.d ≡ d
  pub cells : length m.words ≡ count * (d + 1)
  pub words : m.words ≡ words_in (d + 1) count 10 bs
  pub births : m.births ≡ (births_in many (births_at d count) bs).births
  pub pairs : m.pairs ≡ (births_in many (births_at d count) bs).pairs
  pub words_inside : births_at d count ≤ length bs
  pub births-inside : end_in many (births_at d count) bs ≤ length bs
  pub of_births : length m.births ≡ many * 3
  pub of_pairs : length m.pairs ≡ weights * 2
  pub few : many ≤ past m.words
  pub light : weights ≤ many * most_refinement
  pub heavy : many * 2 ≤ weights
  pub size : births_at d count + (many * 14 + weights * 6) ≤ length bs

pub record FileIs (bs : List ℕ) (m : Mesh) : Type 0 where
  pub count : ℕ
  pub many : ℕ
  pub weights : ℕ
  pub gives : FileGives bs m m.d count many weights

file-is : (bs : List ℕ) (m : Mesh) (r : List ℕ) → read_file bs ≡ got m r → FileIs bs m
unfolding read_file
file-is bs m r e =
    let i = then-inv (header_from bs) _ m r e in
    let h = header-rest bs i.x i.r i.part in
    let j = then-inv (words_from i.x.d i.x.count [] i.r) _ m r i.next in
    let q : words_from i.x.d i.x.count [] (drop 10 bs) ≡ got j.x j.r = ap (words_from i.x.d i.x.count []) (sym h.1) ∙ j.part in
    let w = words-rest i.x.d i.x.count 10 [] bs j.x j.r h.0 q in
    let k = then-inv (births_read_from (length bs) (past j.x) no_birth j.r) _ m r j.next in
    let b = births-are (length bs) (past j.x) no_birth (births_at i.x.d i.x.count) bs k.x k.r w.inside (omega arith) (λ z. refl) (ap (births_read_from (length bs) (past j.x) no_birth) (sym w.rest) ∙ k.part) in
    subst (FileIs bs) (same-part k.next).0
    (record {
      count = i.x.count;
      many = b.many;
      weights = b.weights;
      gives = record {
        dimension = refl;
        cells = w.long;
        words = words_are i.x.d i.x.count 10 [] bs j.x j.r q;
        births = ap (λ (l : Births). l.births) b.is;
        pairs = ap (λ (l : Births). l.pairs) b.is;
        words_inside = w.inside;
        births-inside = b.inside;
        of_births = b.of_births;
        of_pairs = b.of_pairs;
        few = omega (arith, b.few);
        light = b.light;
        heavy = b.heavy;
        size = b.size;
      };
    })

-- how long the lists of a file can be: a word has ten bytes more than its vertices need, and a birth has two or more pairs
pub room-enough : (bs : List ℕ) (m : Mesh) (r : List ℕ) → read_file bs ≡ got m r → (length m.words * 4 ≤ length bs) × (length m.births * 8 ≤ length bs) × (length m.pairs * 3 ≤ length bs)
room-enough bs m r e =
    let f = file-is bs m r e in
    let g = f.gives in
    let w = mul-le-mul {n₁ = f.count} {m₁ = (m.d + 1) * 4} {n₂ = f.count} {m₂ = 10 + 4 * m.d} (omega arith) (omega arith) in (
      omega (arith, g.words_inside, g.cells, mul_assoc f.count (m.d + 1) 4, w),
      omega (arith, g.of_births, g.heavy, g.size),
      omega (arith, g.of_pairs, g.size),
    )

-- what the scan says
module _ (bs : List ℕ) where
  scanned-in : (p : Part Mesh) (s : Scanned) → read_file bs ≡ p → Ok s ≡ scanned_of p → FileGives bs (mesh_in p) s.d s.count s.births s.pairs
  scanned-in (no why) s e q = cc
  scanned-in (got m r) s e q =
      let f = file-is bs m r e in
      let x : record { d = m.d; count = length m.words / (m.d + 1); births = length m.births / 3; pairs = length m.pairs / 2 } ≡ s = cc in
      let a : m.d ≡ s.d = ap (λ (y : Scanned). y.d) x in
      let c : f.count ≡ s.count = sym (div-eq_of_eq-mul_left {n = m.d + 1} {m = length m.words} {k = f.count} (omega arith) f.gives.cells) ∙ ap (λ (y : Scanned). y.count) x in
      let b : f.many ≡ s.births = omega (arith, f.gives.of_births, ap (λ (y : Scanned). y.births) x) in
      let w : f.weights ≡ s.pairs = omega (arith, f.gives.of_pairs, ap (λ (y : Scanned). y.pairs) x) in
      subst (λ (x : ℕ). FileGives bs m x s.count s.births s.pairs) a
      (subst (λ (x : ℕ). FileGives bs m m.d x s.births s.pairs) c
      (subst (λ (x : ℕ). FileGives bs m m.d f.count x s.pairs) b
      (subst (λ (x : ℕ). FileGives bs m m.d f.count f.many x) w f.gives)))

  pub scanned-gives : (s : Scanned) → Ok s ≡ scanned_of (read_file bs) → FileGives bs (mesh_in (read_file bs)) s.d s.count s.births s.pairs
  scanned-gives s q = scanned-in (read_file bs) s refl q

  refused-in : (p : Part Mesh) (s : Scanned) → Ok s ≡ scanned_of p → refused_in p ≡ answer_of (mesh_in p).d (mesh_in p).words
  refused-in (no why) s q = cc
  refused-in (got m r) s q = refl

  pub scanned-answer : (s : Scanned) → Ok s ≡ scanned_of (read_file bs) → refused_in (read_file bs) ≡ answer_of (mesh_in (read_file bs)).d (mesh_in (read_file bs)).words
  scanned-answer s q = refused-in (read_file bs) s q

  none_in : (p : Part Mesh) (why : Refusal) → Err why ≡ scanned_of p → refused_in p ≡ Err why
  none_in (no other) why q = cc
  none_in (got m r) why q = cc

  pub scanned-refused : (why : Refusal) → Err why ≡ scanned_of (read_file bs) → refused_in (read_file bs) ≡ Err why
  scanned-refused why q = none_in (read_file bs) why q

-- ---- handing out

module _ (bs : List ℕ) (m : Mesh) (d count many weights : ℕ) (f : FileGives bs m d count many weights) (corners : List ℕ) (ec : corners ≡ m.words) (p : Passed d corners) where
  pub counts-small : (many ≤ most_vertices) × (weights ≤ most_vertices * most_refinement)
  counts-small =
      let l = past-largest m.words in
      let q = ap past ec in
      let low = (subst (λ (x : List ℕ). Passed d x) ec p).low in
      (omega (arith, f.few), omega (arith, f.few, f.light))

  corners_long : length corners ≡ length m.words
  corners_long = ap length ec

  module _ (words births pairs : List ℕ) where
    pub taking : many * 3 ≤ length births → weights * 2 ≤ length pairs → Taking many (births_at d count) bs (take (many * 3) births) (take (weights * 2) pairs)
    taking hb hp =
        record {
          in_births = length-take-le (many * 3) births hb;
          in_pairs = length-take-le (weights * 2) pairs hp ∙ sym f.of_pairs ∙ ap length f.pairs;
          inside = f.births-inside;
        }

    pub handing-words : length words < length corners → Handing m (Err TooShort) words words births births pairs pairs
    handing-words h = record { handed = none; ends = λ y. words_short y (omega (arith, corners_long)); of_words = refl; of_births = refl; of_pairs = refl }

    pub handing-births : length births < many * 3 → Handing m (Err TooShort) words words births births pairs pairs
    handing-births h = record { handed = none; ends = λ y. births_short y (omega (arith, f.of_births)); of_words = refl; of_births = refl; of_pairs = refl }

    pub handing-pairs : length pairs < weights * 2 → Handing m (Err TooShort) words words births births pairs pairs
    handing-pairs h = record { handed = none; ends = λ y. pairs_short y (omega (arith, f.of_pairs)); of_words = refl; of_births = refl; of_pairs = refl }

    -- what the mesh has, by the numbers of the scan
    said : reading m ≡ record { dimension = d; cells = count; births = many; pairs = weights }
    said =
        let c : length m.words / (m.d + 1) ≡ count = ap (λ (x : ℕ). length m.words / (x + 1)) f.dimension ∙ div-eq_of_eq-mul_left {n = d + 1} {m = length m.words} {k = count} (omega arith) f.cells in
        let b : length m.births / 3 ≡ many = omega (arith, f.of_births) in
        let w : length m.pairs / 2 ≡ weights = omega (arith, f.of_pairs) in
        rw (c, b, w, f.dimension)

    module _ (hw : length corners ≤ length words) (hb : many * 3 ≤ length births) (hp : weights * 2 ≤ length pairs) (ws ms ps : List ℕ) (ew : ws ≡ corners)
        (em : ms ≡ (births_in many (births_at d count) bs).births) (ep : ps ≡ (births_in many (births_at d count) bs).pairs) where
      pub handing-read : Handing m (Ok (record { dimension = d; cells = count; births = many; pairs = weights })) words (ws ++ drop (length corners) words) births (ms ++ drop (many * 3) births) pairs (ps ++ drop (weights * 2) pairs)
      handing-read =
          record {
            handed = record { words = m.words; births = m.births; pairs = m.pairs };
            ends = λ y. subst (λ (x : Reading). Gives m (record { words = words; births = births; pairs = pairs }) (Ok x) (record { words = m.words; births = m.births; pairs = m.pairs })) said (read y (omega (arith, corners_long)) (omega (arith, f.of_births)) (omega (arith, f.of_pairs)));
            of_words = ap (λ (l : List ℕ). l ++ drop (length corners) words) (ew ∙ ec) ∙ ap (λ (x : ℕ). m.words ++ drop x words) corners_long;
            of_births = ap (λ (l : List ℕ). l ++ drop (many * 3) births) (em ∙ sym f.births) ∙ ap (λ (x : ℕ). m.births ++ drop x births) (sym f.of_births);
            of_pairs = ap (λ (l : List ℕ). l ++ drop (weights * 2) pairs) (ep ∙ sym f.pairs) ∙ ap (λ (x : ℕ). m.pairs ++ drop x pairs) (sym f.of_pairs);
          }
