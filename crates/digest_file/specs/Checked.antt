-- What a check of a file's digest found.
use Rattle.std.specs.Prelude.{ℕ, List}
use Rattle.digest_file.specs.declared.check.Checked.{Checked}
use Rattle.digest_file.specs.declared.check.Checked.TheVariants.{Match, Mismatch}

-- the fact holds of the digest that was found in the place of the manifest's
abbrev pub IfMismatch : Checked → (List ℕ → Type 0) → Type 0
IfMismatch Match P = Unit {0}
IfMismatch (Mismatch found) P = P found
