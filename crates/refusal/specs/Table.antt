-- The numbers of document 01's table, and document 02's from 18 on, and the places: what `number` and `place` of `src/lib.rt` say. Assumes nothing.
use Rattle.std.specs.Prelude.{ℕ}
use Rattle.refusal.specs.declared.Refusal.{Refusal}
use Rattle.refusal.specs.declared.Refusal.TheVariants.{BadDimension, RaggedWords, TooManyCells, VertexTwice, UnusedNumber, TooManyVertices, CrowdedFacet, ShortAxis, BadReflection, BadSide, BadRefinement, TooShort, NoSigns, BadSigns, TwoLengths, BadOrder, Unreadable, OtherGrid, BadLatitudes, FileEnds, UnknownKind, BadFile, NoSuchCell, BadFaces}

-- a refusal's number
abbrev pub number_of : Refusal → ℕ
number_of BadDimension = 1
number_of RaggedWords = 2
number_of TooManyCells = 3
number_of (VertexTwice word) = 4
number_of (UnusedNumber vertex) = 5
number_of TooManyVertices = 6
number_of CrowdedFacet = 7
number_of (ShortAxis axis) = 8
number_of (BadReflection axis) = 9
number_of (BadSide side) = 10
number_of BadRefinement = 11
number_of TooShort = 12
number_of NoSigns = 13
number_of BadSigns = 14
number_of TwoLengths = 15
number_of BadOrder = 16
number_of Unreadable = 17
number_of OtherGrid = 18
number_of BadLatitudes = 19
number_of FileEnds = 20
number_of UnknownKind = 21
number_of BadFile = 22
number_of NoSuchCell = 23
number_of BadFaces = 24

-- what a refusal speaks of, 0 where it has no place
abbrev pub place_of : Refusal → ℕ
place_of BadDimension = 0
place_of RaggedWords = 0
place_of TooManyCells = 0
place_of (VertexTwice word) = word
place_of (UnusedNumber vertex) = vertex
place_of TooManyVertices = 0
place_of CrowdedFacet = 0
place_of (ShortAxis axis) = axis
place_of (BadReflection axis) = axis
place_of (BadSide side) = side
place_of BadRefinement = 0
place_of TooShort = 0
place_of NoSigns = 0
place_of BadSigns = 0
place_of TwoLengths = 0
place_of BadOrder = 0
place_of Unreadable = 0
place_of OtherGrid = 0
place_of BadLatitudes = 0
place_of FileEnds = 0
place_of UnknownKind = 0
place_of BadFile = 0
place_of NoSuchCell = 0
place_of BadFaces = 0
