-- A question as the code asks it: its answer, and what refuses where this is no.
use Rattle.std.specs.Prelude.{Bool}
use Rattle.model.specs.Questions.{Question}
use Rattle.refusal.specs.Numbers.{number}
use Rattle.refusal.specs.declared.Refusal.{Refusal}

abbrev pub question : Bool × Refusal → Question
question q = (number q.1, q.0)
