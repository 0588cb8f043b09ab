-- What the inner functions answer, as the definitions of reading have it. Assumes nothing.
use Rattle.std.specs.Prelude.{cond, ◌&&◌, List, [], ◌∷◌, ◌++◌, ◌≡◌, ℕ, zero, suc, ◌+◌, ◌*◌, ◌-◌, ◌/◌, ◌%◌, ◌<◌, ◌≤◌, length, take, drop, leb, eqb, Option, Some, None, Result, Ok, Err}
use Rattle.refusal.specs.declared.Refusal.{Refusal}
use Rattle.refusal.specs.Says.{Answer, fine}
use Rattle.file_bytes.specs.Bytes.{said, fours_of}
use Rattle.file_mesh.specs.declared.Run.{Run}
use Rattle.file_mesh.specs.Mesh.{Mesh, past}
use Rattle.file_mesh.specs.Rules.{run_ends, weights_of}
use Rattle.file_mesh.specs.Read.{Part, no, got, and_then, asked, Opening, opening_from, Header, Birth, birth_from, Births, no_births, with_birth, nothing}
use Rattle.refusal.specs.Lent.{onto}
use Rattle.complex.specs.Cells.{cells_of}
use Rattle.complex.specs.Facets.{Crowded}
use Rattle.file_mesh_read.specs.Promise.{Lists, Gives}
use Rattle.file_mesh_read.specs.declared.Reading.{Reading}
use Rattle.file_mesh_read.specs.declared.Opened.{Opened}
use Rattle.file_mesh_read.specs.declared.Headed.{Headed}
use Rattle.file_mesh_read.specs.declared.Born.{Born}
use Rattle.file_mesh_read.specs.declared.Counts.{Counts}
use Rattle.file_mesh_read.specs.declared.Scanned.{Scanned}

-- the refusal of a part, or that it is read
abbrev pub refusal_of : {A : Type 0} → Part A → Answer
refusal_of (no why) = Err why
refusal_of (got x r) = fine

abbrev pub opened_of : Part Opening → Result Opened Refusal
opened_of (no why) = Err why
opened_of (got o r) = Ok (record { len = o.len; kind = o.kind })

abbrev pub headed_of : Part Header → Result Headed Refusal
headed_of (no why) = Err why
headed_of (got h r) = Ok (record { d = h.d; count = h.count })

-- two bytes hold each number of a header
abbrev pub Low : Result Headed Refusal → Type 0
Low (Ok h) = (h.d < 65536) × (h.count < 65536)
Low (Err why) = Unit

-- the word before word k, whose record begins at `at`
abbrev pub word_before : ℕ → ℕ → ℕ → List ℕ → List ℕ
word_before d zero at bs = []
word_before d (suc k) at bs = fours_of (d + 1) (drop (at - (d + 1) * 4) bs)

abbrev pub worded_of : Part (List ℕ) → Result ℕ Refusal
worded_of (no why) = Err why
worded_of (got ws r) = Ok (past ws)

-- pairs whose weights sum to r
abbrev pub weighed : ℕ → Part (List ℕ) → Part (List ℕ)
weighed r p = and_then p (λ ps t. asked (eqb (weights_of ps) r) (got ps t))

abbrev pub born_of : Part Birth → Result Born Refusal
born_of (no why) = Err why
born_of (got b r) = Ok (record { number = b.number; r = b.r; count = b.count })

-- the record after the words: a birth, or the end of the file
pub data Next : Type 0 where
  one : Birth → Next
  end : Next

unfoldable pub next_from : ℕ → Run → List ℕ → Part Next
next_from vertices run bs =
    and_then (opening_from bs) (λ o r.
    cond (eqb o.kind 4)
    (asked (eqb o.len 2 && (run_ends vertices run && nothing r)) (got end r))
    (asked (eqb o.kind 3 && (leb 10 o.len && eqb ((o.len - 10) % 6) 0))
    (and_then (birth_from vertices run o.len r) (λ b s. got (one b) s))))

abbrev pub next_of : Part Next → Result (Option Born) Refusal
next_of (no why) = Err why
next_of (got (one b) r) = Ok (Some (record { number = b.number; r = b.r; count = b.count }))
next_of (got end r) = Ok None

abbrev pub counts_of : Part Births → Result Counts Refusal
counts_of (no why) = Err why
counts_of (got l r) = Ok (record { births = length l.births / 3; pairs = length l.pairs / 2 })

abbrev pub scanned_of : Part Mesh → Result Scanned Refusal
scanned_of (no why) = Err why
scanned_of (got m r) = Ok (record { d = m.d; count = length m.words / (m.d + 1); births = length m.births / 3; pairs = length m.pairs / 2 })

-- count words of n vertices, in records from `at` on
unfoldable pub words_in : ℕ → ℕ → ℕ → List ℕ → List ℕ
words_in n zero at bs = []
words_in n (suc count) at bs = fours_of n (drop (at + 6) bs) ++ words_in n count (at + (6 + n * 4)) bs

-- count pairs, from `at` on
unfoldable pub pairs_in : ℕ → ℕ → List ℕ → List ℕ
pairs_in zero at bs = []
pairs_in (suc count) at bs = said (take 4 (drop at bs)) ∷ (said (take 2 (drop (at + 4) bs)) ∷ pairs_in count (at + 6) bs)

-- the birth whose record begins at `at`
abbrev pub count_in : ℕ → List ℕ → ℕ
count_in at bs = said (take 2 (drop (at + 12) bs))

abbrev pub birth_in : ℕ → List ℕ → Birth
birth_in at bs =
    record { number = said (take 4 (drop (at + 6) bs)); r = said (take 2 (drop (at + 10) bs)); count = count_in at bs; pairs = pairs_in (count_in at bs) (at + 14) bs }

-- many births, in records from `at` on, and where their records end
unfoldable pub births_in : ℕ → ℕ → List ℕ → Births
births_in zero at bs = no_births
births_in (suc many) at bs = with_birth (birth_in at bs) (births_in many (at + (14 + count_in at bs * 6)) bs)

unfoldable pub end_in : ℕ → ℕ → List ℕ → ℕ
end_in zero at bs = at
end_in (suc many) at bs = end_in many (at + (14 + count_in at bs * 6)) bs

-- lists that take many births, from `from` on
pub record Taking (many from : ℕ) (bs births pairs : List ℕ) : Type 0 where
  pub in_births : length births ≡ many * 3
  pub in_pairs : length pairs ≡ length (births_in many from bs).pairs
  pub inside : end_in many from bs ≤ length bs

-- the lists of a file are handed out, or 12, where no facet is crowded
pub record Handing (m : Mesh) (r : Result Reading Refusal) (words words' births births' pairs pairs' : List ℕ) : Type 0 where
  pub handed : Lists
  pub ends : (Crowded m.d (cells_of m.d m.words) → ⊥) → Gives m (record { words = words; births = births; pairs = pairs }) r handed
  pub of_words : words' ≡ onto handed.words words
  pub of_births : births' ≡ onto handed.births births
  pub of_pairs : pairs' ≡ onto handed.pairs pairs
