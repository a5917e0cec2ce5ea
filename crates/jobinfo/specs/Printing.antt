-- What is printed, and whether it is a refusal.
use Rattle.std.specs.Prelude.{ℕ, Bool, true, false, List, vec_items}
use Rattle.jobinfo.specs.declared.answer.Printed.{Printed}
use Rattle.jobinfo.specs.declared.answer.Printed.TheVariants.{Taken, Refused}

abbrev pub text_of : Printed → List ℕ
text_of (Taken text) = vec_items text
text_of (Refused text) = vec_items text

abbrev pub is_refusal : Printed → Bool
is_refusal (Taken _) = false
is_refusal (Refused _) = true
