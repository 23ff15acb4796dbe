-- How a G function prints: its letter and its number.
use Rattle.std.specs.Prelude.{ℕ, List, ◌++◌, codes, decimal}
use Rattle.reader.specs.declared.functions.GFunction.{GFunction}
use Rattle.reader.specs.Words.{g_number}

abbrev pub g_text : GFunction → List ℕ
g_text g = codes "G" ++ decimal (g_number g)
