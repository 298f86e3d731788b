-- Answers of parsers.
use Rattle.std.specs.declared.result.Result.TheVariants.{Err}
use Rattle.p3l_opts.specs.declared.command.OptsRefusal.{OptsRefusal}
use Rattle.p3l_opts.specs.declared.command.OptsRefusal.TheVariants.{NoMemory, Usage}
use Rattle.p3l_opts.specs.Command.{Parses}

-- words that spell no part spell no whole
pub part_refused : {A B : Type 0} (Whole : A → Type 0) (Part : B → Type 0) (part : A → B) → ((a : A) → Whole a → Part (part a)) → (e : OptsRefusal) → Parses Part (Err e) → Parses Whole (Err e)
part_refused Whole Part part has Usage none = λ a whole. none (part a) (has a whole)
part_refused Whole Part part has NoMemory refused = refused
