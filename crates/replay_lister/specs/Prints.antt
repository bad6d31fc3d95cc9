-- What it is for a case to agree: what is expected is what SCOPE has the lister print for the text. Definitions only.
use Rattle.std.specs.Prelude.{Bool, true, false, List, ◌≡◌, ℕ}
use Rattle.lister_text.specs.Text.{Input, text, Valid}
use Rattle.lister_report.specs.Report.{lines_of, refused_line}

-- l is what is printed for the text s: the lines of the input that s is the writing of, or the refusal 12 where there is none
pub data Prints (s l : List ℕ) : Type 0 where
  lines : (i : Input) → Valid i → s ≡ text i → l ≡ lines_of i → Prints s l
  no_text : ((i : Input) → Valid i → s ≡ text i → ⊥) → l ≡ refused_line → Prints s l

abbrev pub prints_is : List ℕ → List ℕ → Bool → Type 0
prints_is s want true = Prints s want
prints_is s want false = Prints s want → ⊥
