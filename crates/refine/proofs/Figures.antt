-- What refinements need of their ten working lists, by figures. Assumes nothing.
use mathlib.Core.Path.{◌≡◌, refl}
use Rattle.refine.specs.declared.Space.{Space}
use Rattle.refine.specs.Space.{space_of}

-- a triangle refined by 2
pub triangle-by-two : ◌≡◌ {A = Space} (space_of 2 3 2)
    (record { cells = 3; along = 3; pattern = 36; keys = 108; rows = 15; spare = 15; counts = 80; sorted = 12; firsts = 4; buckets = 15 })
triangle-by-two = refl

-- by 0, where 11 follows: as by 1
pub triangle-by-none : ◌≡◌ {A = Space} (space_of 2 3 0)
    (record { cells = 3; along = 3; pattern = 9; keys = 36; rows = 6; spare = 6; counts = 71; sorted = 3; firsts = 1; buckets = 6 })
triangle-by-none = refl

-- two tetrahedra refined by 64, where 3 follows: as many children as the limit
pub tetrahedra-by-most : ◌≡◌ {A = Space} (space_of 3 8 64)
    (record { cells = 8; along = 8; pattern = 65536; keys = 131104; rows = 16392; spare = 16392; counts = 16457; sorted = 16384; firsts = 4096; buckets = 16392 })
tetrahedra-by-most = refl
