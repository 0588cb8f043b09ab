-- Writing and reading, over the promises of the two calls. Assumes nothing.
use Rattle.refusal.proofs.Chain.{fine-refused}
use Rattle.refusal.specs.declared.Refusal.{Refusal}
use Rattle.refusal.specs.Says.{Counted, fine}
use Rattle.std.specs.Prelude.{Err, Ok, Result}
use mathlib.Core.Path.{◌≡◌, refl, sym, ap, subst, ◌∙◌}
use mathlib.Core.Bool.{true}
use mathlib.Core.List.{List, []}
use Prim.Native.Nat.{ℕ, ◌≤◌}
use native.Mathlib.Omega.{arith}
use lib.ListN.{length, take, drop}
use lib.Seq.{take_at}
use Rattle.refusal.specs.declared.Room.{Room}
use Rattle.refusal.specs.Lent.{onto, lengths, Roomy}
use Rattle.refusal.specs.Call.{Comes, refused, cramped, ended}
use Rattle.lists.proofs.Members.{All-of}
use Rattle.lists.proofs.Words.{below-largest}
use Rattle.file_bytes.proofs.Laws.{Four, Bytes}
use Rattle.complex.specs.Check.{answer_of, Passed}
use Rattle.complex.proofs.Fine.{fine-passed}
use Rattle.complex.specs.Cells.{cells_of}
use Rattle.complex.specs.Facets.{Crowded}
use Rattle.complex.specs.Room.{need_of}
use Rattle.skeleton.specs.Promise.{Ends}
use Rattle.skeleton.specs.Promise as Skeleton
use Rattle.file_mesh.specs.Mesh.{Mesh}
use Rattle.file_mesh.specs.Rules.{rules}
use Rattle.file_mesh.specs.File.{file_of}
use Rattle.file_mesh.specs.Read.{Part, got, read_file}
use Rattle.file_mesh.proofs.Written.{Held, written_read}
use Rattle.file_mesh.proofs.Accepted.{read-written}
use Rattle.file_mesh_write.specs.Promise.{Writes, broken, short, written, MeshWritten}
use Rattle.file_mesh_read.specs.declared.Reading.{Reading}
use Rattle.file_mesh_read.specs.Promise.{reading, mesh_in, refused_in, Lists, none, Gives, crowded, words_short, births_short, pairs_short, read, MeshRead}

-- what a mesh that was written has
pub record Sent (m : Mesh) (n : ℕ) (h : List ℕ) : Type 0 where
  pub fine : answer_of m.d m.words ≡ fine
  pub sound : Crowded m.d (cells_of m.d m.words) → ⊥
  pub kept : rules m ≡ true
  pub bytes : h ≡ file_of m
  pub size : n ≡ length (file_of m)

sent : (m : Mesh) (given n : ℕ) (need have : Room) (r : Counted) (h : List ℕ) (used : Room) →
    Comes Err [] (answer_of m.d m.words) need have (Ends [] m.d (cells_of m.d m.words) (Writes m given)) r h used → r ≡ Ok n → Sent m n h
sent m given n need have r h used (refused e) q = cc
sent m given n need have r h used (cramped e g) q = cc
sent m given n need have r h used (ended e g (Skeleton.crowded x)) q = cc
sent m given n need have r h used (ended e g (Skeleton.rest y (broken k))) q = cc
sent m given n need have r h used (ended e g (Skeleton.rest y (short k l))) q = cc
sent m given n need have r h used (ended e g (Skeleton.rest y (written k l))) q = record { fine = e; sound = y; kept = k; bytes = refl; size = cc }

-- a file has room for the lists of a mesh whose cells are checked
pub passed-held : (m : Mesh) → Passed m.d m.words → Held m
passed-held m p =
    record {
      dimension = omega (arith, p.small);
      whole = p.whole;
      few = omega (arith, p.few);
      small = All-of Four m.words (λ i h. omega (arith, below-largest m.words i, p.low));
    }

module _ (m : Mesh) (n : ℕ) (bytes bytes' keys keys' rows rows' spare spare' counts counts' : List ℕ) (w : MeshWritten m (Ok n) bytes bytes' keys keys' rows rows' spare spare' counts counts') where
  pub was-sent : Sent m n w.handed
  was-sent = sent m (length bytes) n _ _ (Ok n) w.handed w.call.used w.call.comes refl

  -- the bytes that were written are the file of the mesh
  pub file-written : take n bytes' ≡ file_of m
  file-written =
      ap (take n) (w.result ∙ ap (λ (l : List ℕ). onto l bytes) was-sent.bytes)
      ∙ take_at (file_of m) (drop (length (file_of m)) bytes) n (sym was-sent.size)

  -- and reading them gives the lists back
  pub written-then-read : read_file (take n bytes') ≡ got m []
  written-then-read = ap read_file file-written ∙ written_read m (passed-held m (fine-passed m.d m.words was-sent.fine)) was-sent.kept

-- ---- the call that reads

gives-read : (m : Mesh) (given : Lists) (r : Result Reading Refusal) (h : Lists) → Gives m given r h → (Crowded m.d (cells_of m.d m.words) → ⊥) → length m.words ≤ length given.words → length m.births ≤ length given.births → length m.pairs ≤ length given.pairs →
    (r ≡ Ok (reading m)) × (h ≡ record { words = m.words; births = m.births; pairs = m.pairs })
gives-read m given r h (crowded x) f a b c = absurd (f x)
gives-read m given r h (words_short f x) _ a b c = absurd (omega arith)
gives-read m given r h (births_short f x) _ a b c = absurd (omega arith)
gives-read m given r h (pairs_short f x) _ a b c = absurd (omega arith)
gives-read m given r h (read f x y z) _ a b c = (refl, refl)

-- with room and long enough lists a file that is read as m, whose cells are fine, hands out m's lists
module _ (m : Mesh) (rest bytes : List ℕ) (r : Result Reading Refusal) (words words' births births' pairs pairs' keys keys' rows rows' spare spare' counts counts' : List ℕ)
    (k : MeshRead bytes r words words' births births' pairs pairs' keys keys' rows rows' spare spare' counts counts') (e : read_file bytes ≡ got m rest)
    (fine : answer_of m.d m.words ≡ fine) (sound : Crowded m.d (cells_of m.d m.words) → ⊥)
    (room : Roomy (need_of m.d (length m.words)) (lengths keys rows spare counts))
    (a : length m.words ≤ length words) (b : length m.births ≤ length births) (c : length m.pairs ≤ length pairs) where
  go : (r' : Result Reading Refusal) (h : Lists) (used : Room) → Comes Err none (answer_of m.d m.words) (need_of m.d (length m.words)) (lengths keys rows spare counts) (Gives m (record { words = words; births = births; pairs = pairs })) r' h used →
      (r' ≡ Ok (reading m)) × (h ≡ record { words = m.words; births = m.births; pairs = m.pairs })
  go r' h used (refused {why = why} q) = absurd (fine-refused why (sym q ∙ fine))
  go r' h used (cramped q g) = absurd (g room)
  go r' h used (ended q g x) = gives-read m (record { words = words; births = births; pairs = pairs }) r' h x sound a b c

  same : (r ≡ Ok (reading m)) × (k.handed ≡ record { words = m.words; births = m.births; pairs = m.pairs })
  same =
      go r k.handed k.used
      (subst (λ (p : Part Mesh). Comes Err none (refused_in p) (need_of (mesh_in p).d (length (mesh_in p).words)) (lengths keys rows spare counts) (Gives (mesh_in p) (record { words = words; births = births; pairs = pairs })) r k.handed k.used) e k.comes)

  pub read-says : r ≡ Ok (reading m)
  read-says = same.0

  pub read-words : words' ≡ onto m.words words
  read-words = k.of_words ∙ ap (λ (h : Lists). onto h.words words) same.1

  pub read-births : births' ≡ onto m.births births
  read-births = k.of_births ∙ ap (λ (h : Lists). onto h.births births) same.1

  pub read_pairs : pairs' ≡ onto m.pairs pairs
  read_pairs = k.of_pairs ∙ ap (λ (h : Lists). onto h.pairs pairs) same.1

-- each file that is read is what writing its lists gives
pub accepted-file : (bytes rest : List ℕ) (m : Mesh) → Bytes bytes → read_file bytes ≡ got m rest → (bytes ≡ file_of m) × (rules m ≡ true)
accepted-file bytes rest m a e =
    let w = read-written m bytes rest a e in
    (w.whole, w.kept)
