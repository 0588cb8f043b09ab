-- The two sentences of a mesh file over its calls: reading what was written returns the same lists, and each accepted file is what writing its lists gives. Assumes nothing.
use Rattle.refusal.specs.declared.Refusal.{Refusal}
use Rattle.refusal.specs.Says.{Counted}
use Rattle.std.specs.Prelude.{Ok, Result}
use mathlib.Core.Path.{◌≡◌, ap, ◌∙◌}
use mathlib.Core.List.{List, []}
use Prim.Native.Nat.{ℕ, ◌≤◌}
use lib.ListN.{length, take}
use Rattle.refusal.specs.Lent.{onto, lengths, Roomy}
use Rattle.complex.specs.Room.{need_of}
use Rattle.file_bytes.proofs.Laws.{Bytes}
use Rattle.file_mesh.specs.Mesh.{Mesh}
use Rattle.file_mesh_write.specs.Promise.{MeshWritten}
use Rattle.file_mesh_read.specs.declared.Reading.{Reading}
use Rattle.file_mesh_read.specs.Promise.{reading, Lists, MeshRead}
use Rattle.file_mesh_read.proofs.Round.{was-sent, written-then-read, read-says, read-words, read-births, read_pairs}
use Rattle.file_mesh_laws.proofs.Rewritten.{came, read-then-written}

-- ---- written, then read

-- the three result lists are long enough for those of the mesh
pub record Long (m : Mesh) (words births pairs : List ℕ) : Type 0 where
  pub in_words : length m.words ≤ length words
  pub in_births : length m.births ≤ length births
  pub in_pairs : length m.pairs ≤ length pairs

-- a reading that hands out the lists of the mesh, and nothing else
pub record Returned (m : Mesh) (r : Result Reading Refusal) (words words' births births' pairs pairs' : List ℕ) : Type 0 where
  pub said : r ≡ Ok (reading m)
  pub of_words : words' ≡ onto m.words words
  pub of_births : births' ≡ onto m.births births
  pub of_pairs : pairs' ≡ onto m.pairs pairs

-- reading what was written returns the same lists
pub same_lists : (m : Mesh) (n : ℕ) (bytes bytes' keys keys' rows rows' spare spare' counts counts' : List ℕ) → MeshWritten m (Ok n) bytes bytes' keys keys' rows rows' spare spare' counts counts' →
    (r : Result Reading Refusal) (words words' births births' pairs pairs' keys₂ keys₂' rows₂ rows₂' spare₂ spare₂' counts₂ counts₂' : List ℕ) →
    MeshRead (take n bytes') r words words' births births' pairs pairs' keys₂ keys₂' rows₂ rows₂' spare₂ spare₂' counts₂ counts₂' →
    Roomy (need_of m.d (length m.words)) (lengths keys₂ rows₂ spare₂ counts₂) → Long m words births pairs →
    Returned m r words words' births births' pairs pairs'
same_lists m n bytes bytes' keys keys' rows rows' spare spare' counts counts' w r words words' births births' pairs pairs' keys₂ keys₂' rows₂ rows₂' spare₂ spare₂' counts₂ counts₂' k room l =
    let s = was-sent m n bytes bytes' keys keys' rows rows' spare spare' counts counts' w in
    let e = written-then-read m n bytes bytes' keys keys' rows rows' spare spare' counts counts' w in
    record {
      said = read-says m [] (take n bytes') r words words' births births' pairs pairs' keys₂ keys₂' rows₂ rows₂' spare₂ spare₂' counts₂ counts₂' k e s.fine s.sound room l.in_words l.in_births l.in_pairs;
      of_words = read-words m [] (take n bytes') r words words' births births' pairs pairs' keys₂ keys₂' rows₂ rows₂' spare₂ spare₂' counts₂ counts₂' k e s.fine s.sound room l.in_words l.in_births l.in_pairs;
      of_births = read-births m [] (take n bytes') r words words' births births' pairs pairs' keys₂ keys₂' rows₂ rows₂' spare₂ spare₂' counts₂ counts₂' k e s.fine s.sound room l.in_words l.in_births l.in_pairs;
      of_pairs = read_pairs m [] (take n bytes') r words words' births births' pairs pairs' keys₂ keys₂' rows₂ rows₂' spare₂ spare₂' counts₂ counts₂' k e s.fine s.sound room l.in_words l.in_births l.in_pairs;
    }

-- ---- read, then written

-- a mesh whose lists a reading handed out, and which every call that writes it, with room, writes as the bytes that were read: so the writer refuses nothing that was read
-- but for 12
pub record Rewrites (bytes : List ℕ) (r : Result Reading Refusal) (words words' births births' pairs pairs' : List ℕ) : Type 0 where
  pub mesh : Mesh
  pub returned : Returned mesh r words words' births births' pairs pairs'
  pub again : (s : Counted) (out out' keys keys' rows rows' spare spare' counts counts' : List ℕ) → MeshWritten mesh s out out' keys keys' rows rows' spare spare' counts counts' →
      Roomy (need_of mesh.d (length mesh.words)) (lengths keys rows spare counts) → length bytes ≤ length out → (s ≡ Ok (length bytes)) × (out' ≡ onto bytes out)

-- each accepted file is what writing its lists gives
pub same-file : (bytes : List ℕ) → Bytes bytes → (said : Reading) (words words' births births' pairs pairs' keys keys' rows rows' spare spare' counts counts' : List ℕ) →
    MeshRead bytes (Ok said) words words' births births' pairs pairs' keys keys' rows rows' spare spare' counts counts' →
    Rewrites bytes (Ok said) words words' births births' pairs pairs'
same-file bytes a said words words' births births' pairs pairs' keys keys' rows rows' spare spare' counts counts' k =
    let f = came bytes a said words words' births births' pairs pairs' keys keys' rows rows' spare spare' counts counts' k in
    record {
      mesh = f.mesh;
      returned =
          record {
            said = f.said;
            of_words = k.of_words ∙ ap (λ (h : Lists). onto h.words words) f.lists;
            of_births = k.of_births ∙ ap (λ (h : Lists). onto h.births births) f.lists;
            of_pairs = k.of_pairs ∙ ap (λ (h : Lists). onto h.pairs pairs) f.lists;
          };
      again = read-then-written bytes a said words words' births births' pairs pairs' keys keys' rows rows' spare spare' counts counts' k;
    }
