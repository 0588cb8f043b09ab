-- With lists of the lengths that are told, writing and reading a mesh file never say 12. Assumes nothing.
use Rattle.refusal.specs.declared.Refusal.TheVariants.{TooShort}
use Rattle.refusal.specs.Says.{Counted, fine}
use Rattle.refusal.specs.declared.Refusal.{Refusal}
use Rattle.std.specs.Prelude.{Err, Result}
use mathlib.Core.Bool.{true}
use mathlib.Core.List.{List, [], ◌∷◌}
use mathlib.Core.Path.{◌≡◌, refl, sym, ap, subst}
use Prim.Native.Nat.{ℕ, zero, suc, ◌+◌, ◌*◌, ◌/◌, ◌≤◌}
use native.Mathlib.Nat.{mul-le-mul_right, mul-le-mul_left, le_trans, le-div_iff_mul-le, zero-lt-suc}
use native.Mathlib.Numerals.{add-one}
use native.Mathlib.Omega.{arith}
use lib.ListN.{length}
use Rattle.refusal.specs.Limits.{most_dimension, most_vertices}
use Rattle.refusal.specs.Lent.{Roomy, lengths}
use Rattle.refusal.proofs.Chain.{fine-refused, refused-same}
use Rattle.complex.specs.Check.{answer_of, Passed}
use Rattle.complex.specs.Cells.{cells_of}
use Rattle.complex.specs.Room.{key_room, need_of}
use Rattle.complex.proofs.Fine.{fine-passed}
use Rattle.skeleton.specs.Promise as skeleton
use Rattle.file_mesh.specs.Mesh.{Mesh, past}
use Rattle.file_mesh.specs.Rules.{rise, births_fit, no_birth, rules}
use Rattle.file_mesh.specs.File.{file_of}
use Rattle.file_mesh.specs.Read.{Part, no, got, read_file}
use Rattle.file_mesh.proofs.Parts.{both}
use Rattle.file_mesh_write.specs.Promise as writing
use Rattle.file_mesh_write.proofs.Sizes.{sizes, file-size, past-largest}
use Rattle.file_mesh_read.specs.declared.Reading.{Reading}
use Rattle.file_mesh_read.specs.Promise as reading
use Rattle.file_mesh_read.proofs.Given.{room-enough}
use Rattle.needs.specs.Needs.{worked}
use Rattle.needs.specs.Enough.{Long}
use Rattle.needs.proofs.Enough.{check-never, never-says, roomy_of, told}
use Rattle.planner_needs_files.specs.Needs.{most_birth_bytes, within, written_need, read_need}
use Rattle.planner_needs_files.proofs.Laws.{within-taken}
use Rattle.planner_needs_files.proofs.Fair.{Fair, file-fair}

-- ---- writing: the file of a mesh that keeps the rules
module _ (m : Mesh) (p : Passed m.d m.words) (k : rules m ≡ true) where
  few-births : (length m.births ≤ most_birth_bytes) × (length m.pairs ≤ most_birth_bytes)
  few-births =
      let s = sizes (past m.words) no_birth m.births m.pairs (omega arith) (λ e. refl) (both (rise m.d (length m.words / (m.d + 1)) [] m.words) (births_fit (past m.words) no_birth m.births m.pairs) k).1 in
      let l : past m.words ≤ most_vertices = omega (arith, past-largest m.words, p.low) in
      (omega (arith, s.of_births, s.small), omega (arith, s.of_pairs, s.small))

  file-told : (given : ℕ) → 16 + length m.words / suc m.d * (10 + 4 * m.d) + within (length m.births) / 3 * 14 + within (length m.pairs) / 2 * 6 ≤ given → length (file_of m) ≤ given
  file-told given l =
      let b = within-taken (length m.births) few-births.0 in
      let q = within-taken (length m.pairs) few-births.1 in
      omega (
        arith,
        l,
        file-size m p k,
        ap (λ (x : ℕ). length m.words / x * (10 + 4 * m.d)) (add-one m.d),
        ap (λ (x : ℕ). x / 3 * 14) b,
        ap (λ (x : ℕ). x / 2 * 6) q,
      )

write-end : (m : Mesh) (cs : List (List ℕ)) (given : ℕ) → (rules m ≡ true → length (file_of m) ≤ given) → (r : Counted) (h : List ℕ) → skeleton.Ends [] m.d cs (writing.Writes m given) r h → r ≡ Err TooShort → ⊥
write-end m cs given fits r h (skeleton.crowded x) t = cc
write-end m cs given fits r h (skeleton.rest free (writing.broken e)) t = cc
write-end m cs given fits r h (skeleton.rest free (writing.short e less)) t = omega (arith, less, fits e)
write-end m cs given fits r h (skeleton.rest free (writing.written e enough)) t = cc

pub write-enough : (m : Mesh) (keys rows spare counts : List ℕ) {keys' rows' spare' counts' bytes bytes' : List ℕ} {r : Counted} → writing.MeshWritten m r bytes bytes' keys keys' rows rows' spare spare' counts counts' → Long (written_need m.d (worked m.d (length m.words)) (length m.births) (length m.pairs)) (length bytes ∷ length keys ∷ length rows ∷ length spare ∷ length counts ∷ []) → r ≡ Err TooShort → ⊥
write-enough m keys rows spare counts {bytes = bytes} a l t =
    never-says [] (answer_of m.d m.words) (check-never m.d m.words) (Passed m.d m.words) (fine-passed m.d m.words) (need_of m.d (length m.words)) (lengths keys rows spare counts) (skeleton.Ends [] m.d (cells_of m.d m.words) (writing.Writes m (length bytes)))
    (λ p. roomy_of (need_of m.d (length m.words)) _ _ _ _ (told_of p).1)
    (λ p. write-end m (cells_of m.d m.words) (length bytes) (λ e. file-told m p e (length bytes) (told_of p).0))
    a.call.comes t
  where
    told_of : Passed m.d m.words → Long (written_need m.d (length m.words) (length m.births) (length m.pairs)) (length bytes ∷ length keys ∷ length rows ∷ length spare ∷ length counts ∷ [])
    told_of p = told m.d m.words (λ (n : ℕ). written_need m.d n (length m.births) (length m.pairs)) (length bytes ∷ length keys ∷ length rows ∷ length spare ∷ length counts ∷ []) l p

-- ---- reading
refused-fair : (f : Part Mesh) → Fair f → reading.refused_in f ≡ Err TooShort → ⊥
refused-fair (no why) h e = h (refused-same why TooShort e)
refused-fair (got m r) h e = check-never m.d m.words e

-- an accepted file
record Accepted (f : Part Mesh) : Type 0 where
  mesh : Mesh
  rest : List ℕ
  is : f ≡ got mesh rest
  passed : Passed mesh.d mesh.words

accepted : (f : Part Mesh) → reading.refused_in f ≡ fine → Accepted f
accepted (no why) e = absurd (fine-refused why e)
accepted (got m r) e = record { mesh = m; rest = r; is = refl; passed = fine-passed m.d m.words e }

quotient-most : (a b k : ℕ) → a * suc k ≤ b → a ≤ b / suc k
quotient-most a b k h = (le-div_iff_mul-le {k = suc k} (zero-lt-suc k)).1 h

keys-most : (d n w : ℕ) → d ≤ most_dimension → n ≤ w → key_room d n ≤ most_dimension * w
keys-most zero n w h l = omega arith
keys-most (suc d) n w h l = le_trans (mul-le-mul_right n h) (mul-le-mul_left most_dimension l)

module _ (bytes : List ℕ) where
  sizes-of : (a : Accepted (read_file bytes)) → (length a.mesh.words ≤ length bytes / 4) × (length a.mesh.births ≤ length bytes / 8) × (length a.mesh.pairs ≤ length bytes / 3)
  sizes-of a =
      let s = room-enough bytes a.mesh a.rest a.is in
      (quotient-most (length a.mesh.words) (length bytes) 3 s.0, quotient-most (length a.mesh.births) (length bytes) 7 s.1, quotient-most (length a.mesh.pairs) (length bytes) 2 s.2)

  roomy-in : (have-keys have-rows have-spare have-counts : ℕ) → most_dimension * (length bytes / 4) ≤ have-keys → length bytes / 4 ≤ have-rows → length bytes / 4 ≤ have-spare → length bytes / 4 ≤ have-counts →
      Accepted (read_file bytes) → Roomy (need_of (reading.mesh_in (read_file bytes)).d (length (reading.mesh_in (read_file bytes)).words)) (record { keys = have-keys; rows = have-rows; spare = have-spare; counts = have-counts })
  roomy-in k o s c hk ho hs hc a =
      let w = (sizes-of a).0 in
      subst (λ (f : Part Mesh). Roomy (need_of (reading.mesh_in f).d (length (reading.mesh_in f).words)) (record { keys = k; rows = o; spare = s; counts = c })) (sym a.is)
      (record {
        in_keys = le_trans (keys-most a.mesh.d (length a.mesh.words) (length bytes / 4) a.passed.small w) hk;
        in_rows = le_trans w ho;
        in_spare = le_trans w hs;
        in_counts = le_trans w hc;
      })

read-end : (m : Mesh) (given : reading.Lists) → length m.words ≤ length given.words → length m.births ≤ length given.births → length m.pairs ≤ length given.pairs → (r : Result Reading Refusal) (h : reading.Lists) → reading.Gives m given r h → r ≡ Err TooShort → ⊥
read-end m given fw fb fp r h (reading.crowded x) t = cc
read-end m given fw fb fp r h (reading.words_short free less) t = omega (arith, less, fw)
read-end m given fw fb fp r h (reading.births_short free less) t = omega (arith, less, fb)
read-end m given fw fb fp r h (reading.pairs_short free less) t = omega (arith, less, fp)
read-end m given fw fb fp r h (reading.read free a b c) t = cc

pub read-enough : (bytes keys rows spare counts words births pairs : List ℕ) {keys' rows' spare' counts' words' births' pairs' : List ℕ} {r : Result Reading Refusal} → reading.MeshRead bytes r words words' births births' pairs pairs' keys keys' rows rows' spare spare' counts counts' → Long (read_need (length bytes)) (length words ∷ length births ∷ length pairs ∷ length keys ∷ length rows ∷ length spare ∷ length counts ∷ []) → r ≡ Err TooShort → ⊥
read-enough bytes keys rows spare counts words births pairs a l t =
    never-says reading.none (reading.refused_in (read_file bytes)) (refused-fair (read_file bytes) (file-fair bytes)) (Accepted (read_file bytes)) (accepted (read_file bytes)) (need_of (reading.mesh_in (read_file bytes)).d (length (reading.mesh_in (read_file bytes)).words)) (lengths keys rows spare counts) (reading.Gives (reading.mesh_in (read_file bytes)) (record { words = words; births = births; pairs = pairs }))
    (roomy-in bytes (length keys) (length rows) (length spare) (length counts) l.1.1.1.0 l.1.1.1.1.0 l.1.1.1.1.1.0 l.1.1.1.1.1.1.0)
    (λ c.
    let s = sizes-of bytes c in
    read-end (reading.mesh_in (read_file bytes)) (record { words = words; births = births; pairs = pairs })
    (subst (λ (f : Part Mesh). length (reading.mesh_in f).words ≤ length words) (sym c.is) (le_trans s.0 l.0))
    (subst (λ (f : Part Mesh). length (reading.mesh_in f).births ≤ length births) (sym c.is) (le_trans s.1 l.1.0))
    (subst (λ (f : Part Mesh). length (reading.mesh_in f).pairs ≤ length pairs) (sym c.is) (le_trans s.2 l.1.1.0)))
    a.comes t
