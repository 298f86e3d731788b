-- Values of expressions in a valuation, or the first trap. Operands are evaluated from left to right.
use Rattle.std.specs.Prelude.{ℕ, ℤ, ◌+◌, ◌*◌, pos, List, ◌∷◌, Result, Ok, Err, nat_lt, if◌then◌else◌}
use Rattle.p3l_base.specs.declared.outcome.TrapKind.{TrapKind}
use Rattle.p3l_base.specs.declared.outcome.TrapKind.TheVariants.{Index}
use Rattle.p3l_ast.specs.declared.expression.BinOp.{BinOp}
use Rattle.p3l_ast.specs.declared.expression.BinOp.TheVariants as operators
use Rattle.p3l_ast.specs.declared.meaning.valuation.Valuation.{Valuation}
use Rattle.p3l_ast.specs.Tree.{Phrase, number, read, unary, binary, Phrases, none, more}
use Rattle.p3l_ast.specs.Meaning.Operator.{truth, holds, unary_of, binary_of}
use Rattle.p3l_ast.specs.Meaning.Valuation.{sizes_of, word_of}

-- the result of `go` on a value, or the trap
abbrev pub given : {A B : Type 0} → Result A TrapKind → (A → Result B TrapKind) → Result B TrapKind
given (Ok x) go = go x
given (Err trap) go = Err trap

-- a truth
abbrev pub tested : ℤ → Result ℤ TrapKind
tested x = Ok (truth (holds x))

-- an operator between operands: `||` and `&&` do not evaluate the right one where the left decides
abbrev pub combined : BinOp → Result ℤ TrapKind → Result ℤ TrapKind → Result ℤ TrapKind
combined operators.Or left right = given left (λ x. if holds x then Ok (pos 1) else given right tested)
combined operators.And left right = given left (λ x. if holds x then given right tested else Ok (pos 0))
combined op left right = given left (λ x. given right (binary_of op x))

-- an index is tested against its size as soon as it is known
abbrev pub indexed : List ℕ → ℕ → (List ℕ → ℕ → Result ℕ TrapKind) → ℤ → Result ℕ TrapKind
indexed (size ∷ sizes) place go (pos i) = if nat_lt i size then go sizes (place * size + i) else Err Index
indexed sizes place go i = Err Index

unfoldable mutual
  -- the number of an expression
  pub value_of : Valuation → Phrase → Result ℤ TrapKind
  value_of valuation (number v) = Ok v
  value_of valuation (read x index) = given (place_of valuation index (sizes_of valuation x.name) 0) (λ place. Ok (word_of valuation x.name place))
  value_of valuation (unary op e) = given (value_of valuation e) (λ x. Ok (unary_of op x))
  value_of valuation (binary op a b) = combined op (value_of valuation a) (value_of valuation b)

  -- the place that indices lead to, in row-major order
  pub place_of : Valuation → Phrases → List ℕ → ℕ → Result ℕ TrapKind
  place_of valuation none sizes place = Ok place
  place_of valuation (more e index) sizes place = given (value_of valuation e) (indexed sizes place (place_of valuation index))
