-- The constant parts of the file, byte by byte. Assumes nothing.
use Rattle.std.specs.Prelude.{ℕ, List, [], ◌∷◌}

-- {"type":"FeatureCollection","features":[
abbrev pub opening_word : List ℕ
opening_word = 123 ∷ 34 ∷ 116 ∷ 121 ∷ 112 ∷ 101 ∷ 34 ∷ 58 ∷ 34 ∷ 70 ∷ 101 ∷ 97 ∷ 116 ∷ 117 ∷ 114 ∷ 101 ∷ 67 ∷ 111 ∷ 108 ∷ 108 ∷ 101 ∷ 99 ∷ 116 ∷ 105 ∷ 111 ∷ 110 ∷ 34 ∷ 44 ∷ 34 ∷ 102 ∷ 101 ∷ 97 ∷ 116 ∷ 117 ∷ 114 ∷ 101 ∷ 115 ∷ 34 ∷ 58 ∷ 91 ∷ []

-- ]} and the line feed
abbrev pub closing_word : List ℕ
closing_word = 93 ∷ 125 ∷ 10 ∷ []

-- {"type":"Feature","id":
abbrev pub feature_word : List ℕ
feature_word = 123 ∷ 34 ∷ 116 ∷ 121 ∷ 112 ∷ 101 ∷ 34 ∷ 58 ∷ 34 ∷ 70 ∷ 101 ∷ 97 ∷ 116 ∷ 117 ∷ 114 ∷ 101 ∷ 34 ∷ 44 ∷ 34 ∷ 105 ∷ 100 ∷ 34 ∷ 58 ∷ []

-- ,"properties":{"cell":
abbrev pub properties_word : List ℕ
properties_word = 44 ∷ 34 ∷ 112 ∷ 114 ∷ 111 ∷ 112 ∷ 101 ∷ 114 ∷ 116 ∷ 105 ∷ 101 ∷ 115 ∷ 34 ∷ 58 ∷ 123 ∷ 34 ∷ 99 ∷ 101 ∷ 108 ∷ 108 ∷ 34 ∷ 58 ∷ []

-- },"geometry":{"type":"Polygon","coordinates":[
abbrev pub geometry_word : List ℕ
geometry_word = 125 ∷ 44 ∷ 34 ∷ 103 ∷ 101 ∷ 111 ∷ 109 ∷ 101 ∷ 116 ∷ 114 ∷ 121 ∷ 34 ∷ 58 ∷ 123 ∷ 34 ∷ 116 ∷ 121 ∷ 112 ∷ 101 ∷ 34 ∷ 58 ∷ 34 ∷ 80 ∷ 111 ∷ 108 ∷ 121 ∷ 103 ∷ 111 ∷ 110 ∷ 34 ∷ 44 ∷ 34 ∷ 99 ∷ 111 ∷ 111 ∷ 114 ∷ 100 ∷ 105 ∷ 110 ∷ 97 ∷ 116 ∷ 101 ∷ 115 ∷ 34 ∷ 58 ∷ 91 ∷ []

-- ]}}
abbrev pub end_word : List ℕ
end_word = 93 ∷ 125 ∷ 125 ∷ []
