-- Cells, generators and chains as they are printed.
use Rattle.std.specs.Prelude.{ℕ, List, [], ◌∷◌, ◌++◌, codes, decimal}
use Rattle.std.specs.List.{flat_map}
use Rattle.elem_cubes.specs.Cells.{Factor, lower_of, upper_of}
use Rattle.corner_texts.specs.CornerText.{corner_text}

-- a cell by its lower and its upper corner, also where it is full
abbrev pub cell_text : List Factor → List ℕ
cell_text q = codes "[" ++ corner_text (lower_of q) ++ corner_text (upper_of q) ++ codes "]"

-- a generator of a chain file by its number
abbrev pub number_text : ℕ → List ℕ
number_text g = codes "#" ++ decimal g

-- a coefficient and a generator that is written so
abbrev pub term_text : {G : Type 0} → (G → List ℕ) → G × ℕ → List ℕ
term_text write (g, c) = decimal c ++ codes " * " ++ write g

-- a chain by its terms
abbrev pub chain_text : {G : Type 0} → (G → List ℕ) → List (G × ℕ) → List ℕ
chain_text write [] = []
chain_text write (t ∷ ts) = term_text write t ++ flat_map (λ t. codes " + " ++ term_text write t) ts
