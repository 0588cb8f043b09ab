-- The file written part by part, and the ways out of the call. Assumes nothing.
use Rattle.refusal.specs.declared.Refusal.{Refusal}
use Rattle.refusal.specs.declared.Refusal.TheVariants.{BadFile, TooShort}
use Rattle.refusal.specs.Says.{Answer, Counted, fine}
use Rattle.std.specs.Prelude.{Err, Ok}
use mathlib.Core.Path.{◌≡◌, refl, sym, ap, subst, ◌∙◌}
use mathlib.Core.Bool.{true, false}
use mathlib.Core.List.{List, [], ◌++◌}
use Prim.Native.Nat.{ℕ, ◌+◌, ◌*◌, ◌-◌, ◌/◌, ◌≤◌, ◌<◌}
use native.Mathlib.Omega.{arith}
use lib.ListN.{length, take, drop, length-append, length-drop}
use lib.Seq.{length-take-le}
use Rattle.refusal.specs.declared.Room.{Room}
use Rattle.refusal.specs.Lent.{onto, lengths}
use Rattle.refusal.specs.Call.{Comes, refused, cramped, ended}
use Rattle.complex.specs.Check.{answer_of, Passed}
use Rattle.complex.proofs.Fine.{fine-passed}
use Rattle.complex.specs.Cells.{cells_of}
use Rattle.complex.specs.Room.{need_of}
use Rattle.skeleton.specs.Promise.{Ends}
use Rattle.skeleton.specs.Promise as Skeleton
use Rattle.complex_sound.specs.Promise.{Facets, crowded, free, Checked}
use Rattle.file_bytes.specs.Bytes.{little}
use Rattle.file_mesh.specs.Mesh.{Mesh}
use Rattle.file_mesh.specs.Rules.{rules}
use Rattle.file_mesh.specs.File.{header_of, words_of, births_of, file_of}
use Rattle.file_mesh_write.specs.Promise.{Writes, broken, short, written, MeshWritten}
use Rattle.file_mesh_write.specs.Work.{Handed}
use Rattle.file_mesh_write.proofs.Bytes.{onto-more, opening-long, header-long, end_is}
use Rattle.file_mesh_write.proofs.Fit.{count_fits_lem}
use Rattle.file_mesh_write.proofs.Sizes.{words_size, file-parts, file-is, file-size}

onto-long : (x to : List ℕ) → length x ≤ length to → length (onto x to) ≡ length to
onto-long x to h = length-append x (drop (length x) to) ∙ omega (arith, length-drop (length x) to)

tail-long : (k : ℕ) (t : List ℕ) → length (take (length t - k) (drop k t)) ≡ length t - k
tail-long k t = length-take-le (length t - k) (drop k t) (omega (arith, length-drop k t))

-- ---- the file

module _ (m : Mesh) (to t : List ℕ) (room : length (file_of m) ≤ length to) where
  abbrev n : ℕ
  n = length m.words / (m.d + 1)

  abbrev pub at : ℕ
  at = 10 + n * (10 + 4 * m.d)

  abbrev w : List ℕ
  w = words_of m.d n m.words

  abbrev b : List ℕ
  b = births_of m.births m.pairs

  w-long : length w ≡ n * (10 + 4 * m.d)
  w-long = words_size m.d n m.words (count_fits_lem (length m.words) (m.d + 1))

  -- what the parts need
  pub parts-room : at + length b + 6 ≤ length to
  parts-room = omega (arith, file-parts m)

  module _ (e : t ≡ onto (header_of m.d n) to) where
    long : length t ≡ length to
    long = ap length e ∙ onto-long (header_of m.d n) to (omega (arith, header-long m.d n, parts-room))

    pub header-room : 10 ≤ length t
    header-room = omega (arith, long, parts-room)

    pub words-room : length w ≤ length (take (length t - 10) (drop 10 t))
    words-room = omega (arith, tail-long 10 t, long, w-long, parts-room)

    module _ (pw : List ℕ) (ew : pw ≡ onto w (take (length t - 10) (drop 10 t))) where
      abbrev t1 : List ℕ
      t1 = take 10 t ++ (pw ++ drop (length t - 10) (drop 10 t))

      is1 : t1 ≡ onto (header_of m.d n ++ w) to
      is1 = onto-more (header_of m.d n) w to t pw 10 (length t - 10) (header-long m.d n) (omega (arith, w-long, parts-room)) e (omega arith) ew

      hw-long : length (header_of m.d n ++ w) ≡ at
      hw-long = length-append (header_of m.d n) w ∙ omega (arith, header-long m.d n, w-long)

      long1 : length t1 ≡ length to
      long1 = ap length is1 ∙ onto-long (header_of m.d n ++ w) to (omega (arith, hw-long, parts-room))

      pub at_room : at ≤ length t1
      at_room = omega (arith, long1, parts-room)

      pub births-room : length b ≤ length (take (length t1 - at) (drop at t1))
      births-room = omega (arith, tail-long at t1, long1, parts-room)

      module _ (used : ℕ) (pb : List ℕ) (eu : used ≡ length b) (eb : pb ≡ onto b (take (length t1 - at) (drop at t1))) where
        abbrev t2 : List ℕ
        t2 = take at t1 ++ (pb ++ drop (length t1 - at) (drop at t1))

        is2 : t2 ≡ onto ((header_of m.d n ++ w) ++ b) to
        is2 = onto-more (header_of m.d n ++ w) b to t1 pb at (length t1 - at) hw-long (omega (arith, parts-room)) is1 (omega arith) eb

        hwb-long : length ((header_of m.d n ++ w) ++ b) ≡ at + used
        hwb-long = length-append (header_of m.d n ++ w) b ∙ omega (arith, hw-long)

        long2 : length t2 ≡ length to
        long2 = ap length is2 ∙ onto-long ((header_of m.d n ++ w) ++ b) to (omega (arith, hwb-long, parts-room))

        pub end-room : at + used + 6 ≤ length t2
        end-room = omega (arith, long2, parts-room)

        pub last-room : 6 ≤ length (take (length t2 - (at + used)) (drop (at + used) t2))
        last-room = omega (arith, tail-long (at + used) t2, end-room)

        pub all-written : (pe : List ℕ) → pe ≡ onto (little 4 2 ++ little 2 4) (take (length t2 - (at + used)) (drop (at + used) t2)) →
            take (at + used) t2 ++ (pe ++ drop (length t2 - (at + used)) (drop (at + used) t2)) ≡ onto (file_of m) to
        all-written pe q =
            onto-more ((header_of m.d n ++ w) ++ b) (little 4 2 ++ little 2 4) to t2 pe (at + used) (length t2 - (at + used)) hwb-long (omega (arith, opening-long 2 4, parts-room)) is2 (omega arith) q
            ∙ ap (λ (l : List ℕ). onto l to) (file-is m (little 4 2 ++ little 2 4) end_is)

-- ---- handing out

pub handed-broken : (m : Mesh) (bytes : List ℕ) → rules m ≡ false → Handed m (Err BadFile) bytes bytes
handed-broken m bytes e = record { handed = []; ends = broken e; result = refl }

module _ (m : Mesh) (bytes : List ℕ) (p : Passed m.d m.words) (e : rules m ≡ true) (size : ℕ)
    (q : size ≡ 16 + length m.words / (m.d + 1) * (10 + 4 * m.d) + length m.births / 3 * 14 + length m.pairs / 2 * 6) where
  pub size_is : size ≡ length (file_of m)
  size_is = q ∙ sym (file-size m p e)

  pub handed-short : length bytes < size → Handed m (Err TooShort) bytes bytes
  handed-short h = record { handed = []; ends = short e (omega (arith, size_is)); result = refl }

  pub handed-all : (bytes' : List ℕ) → size ≤ length bytes → bytes' ≡ onto (file_of m) bytes → Handed m (Ok size) bytes bytes'
  handed-all bytes' h k =
      record { handed = file_of m; ends = subst (λ (n : ℕ). Writes m (length bytes) (Ok n) (file_of m)) (sym size_is) (written e (omega (arith, size_is))); result = k }

-- ---- the call

lifted : Answer → Counted
lifted (Ok _) = Ok 0
lifted (Err why) = Err why

module _ (d : ℕ) (ws : List ℕ) (need have : Room) (Rest : Counted → List ℕ → Type 0) where
  lift : (r : Answer) (u : Unit {0}) (used : Room) → Comes Err (tt {0}) (answer_of d ws) need have (Facets d (cells_of d ws)) r u used → (r ≡ fine → ⊥) →
      Comes Err [] (answer_of d ws) need have (Ends [] d (cells_of d ws) Rest) (lifted r) [] used
  unfolding lifted
  lift r u used (refused e) f = refused e
  lift r u used (cramped e g) f = cramped e g
  lift r u used (ended e g (crowded x)) f = ended e g (Skeleton.crowded x)
  lift r u used (ended e g (free x)) f = absurd (f refl)

  finish : (r : Answer) (u : Unit {0}) (used : Room) → Comes Err (tt {0}) (answer_of d ws) need have (Facets d (cells_of d ws)) r u used → r ≡ fine → (s : Counted) (h : List ℕ) → Rest s h →
      Comes Err [] (answer_of d ws) need have (Ends [] d (cells_of d ws) Rest) s h used
  finish r u used (refused e) f s h x = absurd (let z : ◌≡◌ {A = ℕ} 0 1 = cc in omega arith)
  finish r u used (cramped e g) f s h x = absurd (let z : ◌≡◌ {A = ℕ} 0 1 = cc in omega arith)
  finish r u used (ended e g (crowded y)) f s h x = absurd (let z : ◌≡◌ {A = ℕ} 0 1 = cc in omega arith)
  finish r u used (ended e g (free y)) f s h x = ended e g (Skeleton.rest y x)

-- the checks were passed
fine-from : (d : ℕ) (ws : List ℕ) (need have : Room) (r : Answer) (u : Unit {0}) (used : Room) → Comes Err (tt {0}) (answer_of d ws) need have (Facets d (cells_of d ws)) r u used → r ≡ fine → answer_of d ws ≡ fine
fine-from d ws need have r u used (refused e) f = absurd (let z : ◌≡◌ {A = ℕ} 0 1 = cc in omega arith)
fine-from d ws need have r u used (cramped e g) f = e
fine-from d ws need have r u used (ended e g x) f = e

module _ (m : Mesh) (r : Answer) (bytes keys keys' rows rows' spare spare' counts counts' : List ℕ) (k : Checked m.d m.words r keys keys' rows rows' spare spare' counts counts') where
  pub out-refused : (why : Refusal) → r ≡ Err why → MeshWritten m (Err why) bytes bytes keys keys' rows rows' spare spare' counts counts'
  unfolding lifted
  out-refused why e =
      record {
        handed = [];
        call =
            record {
              used = k.used;
              comes =
                  subst (λ (x : Answer). Comes Err [] (answer_of m.d m.words) (need_of m.d (length m.words)) (lengths keys rows spare counts) (Ends [] m.d (cells_of m.d m.words) (Writes m (length bytes))) (lifted x) [] k.used) e
                  (lift m.d m.words (need_of m.d (length m.words)) (lengths keys rows spare counts) (Writes m (length bytes)) r (tt {0}) k.used k.comes (λ f. let z : ◌≡◌ {A = ℕ} 0 1 = cc in omega arith));
              room = k.room;
            };
        result = refl;
      }

  module _ (f : r ≡ fine) where
    pub checks-passed : Passed m.d m.words
    checks-passed = fine-passed m.d m.words (fine-from m.d m.words (need_of m.d (length m.words)) (lengths keys rows spare counts) r (tt {0}) k.used k.comes f)

    pub out-ended : (s : Counted) (bytes' : List ℕ) → Handed m s bytes bytes' → MeshWritten m s bytes bytes' keys keys' rows rows' spare spare' counts counts'
    out-ended s bytes' h =
        record {
          handed = h.handed;
          call =
              record {
                used = k.used;
                comes = finish m.d m.words (need_of m.d (length m.words)) (lengths keys rows spare counts) (Writes m (length bytes)) r (tt {0}) k.used k.comes f s h.handed h.ends;
                room = k.room;
              };
          result = h.result;
        }
