-- The meaning of a checked body: from the words of an item to those of its outs.
use Rattle.std.specs.Prelude.{ℕ, ℤ, pos, List, [], ◌∷◌, ◌++◌, map, take, drop, replicate, Result, Ok, Err}
use Rattle.std.specs.List.{flat_map}
use Rattle.std.specs.Option.{option_map_or}
use Rattle.p3l_base.specs.declared.outcome.Outcome.{Outcome}
use Rattle.p3l_base.specs.declared.outcome.Outcome.TheVariants.{Value, Trapped}
use Rattle.p3l_base.specs.declared.outcome.TrapKind.{TrapKind}
use Rattle.p3l_ast.specs.declared.meaning.valuation.Binding.{Binding}
use Rattle.p3l_ast.specs.declared.meaning.valuation.Valuation.{Valuation}
use Rattle.p3l_ast.specs.Meaning.Valuation.{binding_of}
use Rattle.p3l_ast.specs.Meaning.Statement.{run_of}
use Rattle.p3l_types.specs.Shape.{product}
use Rattle.p3l_body.specs.declared.var.Var.{Var}
use Rattle.p3l_body.specs.Seq.{SeqTree}

-- the number of words of a variable
abbrev pub width : Var → ℕ
width var = product var.shape.sizes

-- a variable with its words
abbrev pub bound : Var → List ℤ → Binding
bound var words = record { name = var.name; sizes = var.shape.sizes; words = words }

-- the ins hold the words of the item, one after the other
abbrev pub holding : List Var → List ℤ → List Binding
holding [] words = []
holding (var ∷ vars) words = bound var (take (width var) words) ∷ holding vars (drop (width var) words)

-- outs and local variables start at 0
abbrev pub zeroed : Var → Binding
zeroed var = bound var (replicate (width var) (pos 0))

-- a constant stands for its number
abbrev pub constant : List ℕ × ℤ → Binding
constant c = record { name = c.0; sizes = []; words = c.1 ∷ [] }

-- the valuation in which a body starts
abbrev pub start_of : SeqTree → List ℤ → Valuation
start_of seq words = record {
  bindings = ((holding seq.ins words ++ map zeroed seq.outs) ++ map zeroed seq.locals) ++ map constant seq.constants;
  turns = 0;
}

-- the words of a variable
abbrev pub words_in : Valuation → Var → List ℤ
words_in valuation var = option_map_or (λ (binding : Binding). binding.words) (binding_of valuation var.name) []

-- the result of a module's run: the words of the outs in order, or its trap
abbrev pub outcome_of : ℕ → List Var → Result Valuation TrapKind → Outcome
outcome_of home outs (Ok valuation) = Value (flat_map (words_in valuation) outs)
outcome_of home outs (Err trap) = Trapped (record { kind = trap; «module» = home })

-- the outcome of a module on the words of an item
abbrev pub eval : SeqTree → List ℤ → Outcome
eval seq words = outcome_of seq.home seq.outs (run_of seq.budget seq.body (start_of seq words))
