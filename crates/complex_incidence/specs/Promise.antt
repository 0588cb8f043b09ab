-- What the call `incidence` comes to, on every input. Assumes nothing.
use Rattle.refusal.specs.Says.{Counted}
use Rattle.std.specs.Prelude.{List, [], ◌≡◌, ℕ, length}
use Rattle.refusal.specs.Lent.{onto}
use Rattle.complex.specs.Room.{need_of}
use Rattle.skeleton.specs.Promise.{GivesBoth, Call}
use Rattle.complex_faces.specs.Index.{starts_of, word_index}

-- the promise: r is what the call says, and a list with ' is what it holds at exit. The cells of the vertices stand one after the other in `touching`, and where each vertex's
-- start, and, last, where they end, in `starts`.
pub record Indexed (d : ℕ) (ws : List ℕ) (r : Counted) (touching touching' starts starts' keys keys' rows rows' spare spare' counts counts' : List ℕ) : Type 0 where
  pub handed : List ℕ × List ℕ
  pub call : Call ([], []) (need_of d (length ws)) (GivesBoth (word_index d ws) (starts_of (word_index d ws)) (length touching) (length starts)) d ws r handed keys keys' rows rows' spare spare' counts counts'
  pub result : touching' ≡ onto handed.0 touching
  pub sides : starts' ≡ onto handed.1 starts
