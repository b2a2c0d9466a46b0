-- The entries of a list of files, as contracts see them.
use Rattle.std.proofs.Common.{ℕ, List, String, Global, Vec, string_bytes}

abbrev pub key : String Global × Vec ℕ Global → List ℕ
key e = string_bytes e.0

abbrev pub value : String Global × Vec ℕ Global → List ℕ
value e = e.1.items
