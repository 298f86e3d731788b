-- Symbols that stand in front of others, and can be written in front of any that can be written.
use Rattle.std.proofs.Common.{List, [], ◌∷◌, map, Bool, true, false, Option, Some, None}
use Rattle.p3l_ast.specs.declared.port.Num.{Num}
use Rattle.p3l_ast.specs.declared.port.Port.{Port}
use Rattle.p3l_ast.specs.declared.call.Sub.{Sub}
use Rattle.p3l_ast.specs.declared.call.Sub.TheVariants.{Whole, Free}
use Rattle.p3l_ast.specs.declared.call.Arg.{Arg}
use Rattle.p3l_ast.specs.declared.call.OutArg.{OutArg}
use Rattle.p3l_ast.specs.declared.call.OutArg.TheVariants.{Fresh, Old}
use Rattle.p3l_ast.specs.declared.call.Call.{Call}
use Rattle.p3l_ast.specs.declared.module.Rescue.{Rescue}
use Rattle.p3l_ast.specs.declared.expression.BinOp.TheVariants as ops
use Rattle.p3l_lexer.specs.declared.mark.Mark.TheVariants as marks
use Rattle.p3l_grammar.specs.Symbol.{Symbol, word, sign}
use Rattle.p3l_grammar.specs.Written.{each, after_comma, separated, num_symbol, spell_size, spell_port, spell_sub, spell_arg, spell_out, spell_call, spell_signed, spell_rescue_clause}
use Rattle.p3l_print.proofs.Writing.{IsWritable, AreWritable, spell_interface}
use Rattle.p3l_rewrite.specs.Candidates.{plain, plain_out}

pub record IsFront (f : List Symbol → List Symbol) : Type 0 where
  pub leaves : (r : List Symbol) → AreWritable (f r) → AreWritable r
  pub enters : (r s : List Symbol) → AreWritable (f r) → AreWritable s → AreWritable (f s)

no_front : IsFront (λ r. r)
no_front = record { leaves = λ r h. h; enters = λ r s h k. k }

one_front : (t : Symbol) → IsFront (λ r. t ∷ r)
one_front t = record { leaves = λ r h. h.1; enters = λ r s h k. (h.0, k) }

both_front : (f g : List Symbol → List Symbol) → IsFront f → IsFront g → IsFront (λ r. f (g r))
both_front f g a b = record {
  leaves = λ r h. b.leaves r (a.leaves (g r) h);
  enters = λ r s h k. a.enters (g r) (g s) h (b.enters r s (a.leaves (g r) h) k);
}

pub each_front : {X : Type 0} (f : X → List Symbol → List Symbol) → ((x : X) → IsFront (f x)) → (xs : List X) → IsFront (each f xs)
each_front f k [] = no_front
each_front f k (x ∷ xs) = both_front (f x) (each f xs) (k x) (each_front f k xs)

separated_front : {X : Type 0} (f : X → List Symbol → List Symbol) → ((x : X) → IsFront (f x)) → (xs : List X) → IsFront (separated f xs)
separated_front f k [] = no_front
separated_front f k (x ∷ xs) =
    both_front (f x) (each (after_comma f) xs) (k x)
    (each_front (after_comma f) (λ y. both_front (λ r. sign marks.Comma ∷ r) (f y) (one_front (sign marks.Comma)) (k y)) xs)

size_front : (n : Num) → IsFront (spell_size n)
size_front n =
    both_front (λ r. sign marks.OpenBracket ∷ r) (λ r. num_symbol n ∷ sign marks.CloseBracket ∷ r) (one_front (sign marks.OpenBracket))
    (both_front (λ r. num_symbol n ∷ r) (λ r. sign marks.CloseBracket ∷ r) (one_front (num_symbol n)) (one_front (sign marks.CloseBracket)))

pub port_front : (p : Port) → IsFront (spell_port p)
port_front p =
    both_front (λ r. sign marks.Int ∷ r) (λ r. word p.at ∷ each spell_size p.sizes r) (one_front (sign marks.Int))
    (both_front (λ r. word p.at ∷ r) (each spell_size p.sizes) (one_front (word p.at)) (each_front spell_size size_front p.sizes))

sub_front : (s : Sub) → IsFront (spell_sub s)
sub_front Whole = both_front (λ r. sign marks.OpenBracket ∷ r) (λ r. sign marks.CloseBracket ∷ r) (one_front (sign marks.OpenBracket)) (one_front (sign marks.CloseBracket))
sub_front (Free x) =
    both_front (λ r. sign marks.OpenBracket ∷ r) (λ r. sign (marks.Operator ops.Mul) ∷ word x ∷ sign marks.CloseBracket ∷ r) (one_front (sign marks.OpenBracket))
    (both_front (λ r. sign (marks.Operator ops.Mul) ∷ r) (λ r. word x ∷ sign marks.CloseBracket ∷ r) (one_front (sign (marks.Operator ops.Mul)))
    (both_front (λ r. word x ∷ r) (λ r. sign marks.CloseBracket ∷ r) (one_front (word x)) (one_front (sign marks.CloseBracket))))

arg_front : (a : Arg) → IsFront (spell_arg a)
arg_front a = both_front (λ r. word a.at ∷ r) (each spell_sub a.subs) (one_front (word a.at)) (each_front spell_sub sub_front a.subs)

out_front : (a : OutArg) → IsFront (spell_out a)
out_front (Fresh p) = port_front p
out_front (Old a) = arg_front a

pub interface_front : {I O : Type 0} (f : I → List Symbol → List Symbol) (is : List I) (g : O → List Symbol → List Symbol) (os : List O) → ((i : I) → IsFront (f i)) → ((o : O) → IsFront (g o)) → IsFront (spell_interface f is g os)
interface_front f is g os k l =
    let a1 = both_front (separated g os) (λ r. sign marks.CloseParen ∷ r) (separated_front g l os) (one_front (sign marks.CloseParen)) in
    let a2 = both_front (λ r. sign marks.OpenParen ∷ r) (λ r. separated g os (sign marks.CloseParen ∷ r)) (one_front (sign marks.OpenParen)) a1 in
    let a3 = both_front (λ r. sign marks.Out ∷ r) (λ r. sign marks.OpenParen ∷ separated g os (sign marks.CloseParen ∷ r)) (one_front (sign marks.Out)) a2 in
    let a4 = both_front (λ r. sign marks.CloseParen ∷ r) (λ r. sign marks.Out ∷ sign marks.OpenParen ∷ separated g os (sign marks.CloseParen ∷ r)) (one_front (sign marks.CloseParen)) a3 in
    let a5 = both_front (separated f is) (λ r. sign marks.CloseParen ∷ sign marks.Out ∷ sign marks.OpenParen ∷ separated g os (sign marks.CloseParen ∷ r)) (separated_front f k is) a4 in
    let a6 = both_front (λ r. sign marks.OpenParen ∷ r) (λ r. separated f is (sign marks.CloseParen ∷ sign marks.Out ∷ sign marks.OpenParen ∷ separated g os (sign marks.CloseParen ∷ r))) (one_front (sign marks.OpenParen)) a5 in
    both_front (λ r. sign marks.In ∷ r) (λ r. sign marks.OpenParen ∷ separated f is (sign marks.CloseParen ∷ sign marks.Out ∷ sign marks.OpenParen ∷ separated g os (sign marks.CloseParen ∷ r))) (one_front (sign marks.In)) a6

pub ports_front : (ins outs : List Port) → IsFront (spell_interface spell_port ins spell_port outs)
ports_front ins outs = interface_front spell_port ins spell_port outs port_front port_front

-- the symbols behind the name of a called module are a front
pub arguments_front : (c : Call) → IsFront (spell_interface spell_arg c.ins spell_out c.outs)
arguments_front c = interface_front spell_arg c.ins spell_out c.outs arg_front out_front

pub call_front : (c : Call) → IsFront (spell_call c)
call_front c = both_front (λ r. word c.at ∷ r) (spell_interface spell_arg c.ins spell_out c.outs) (one_front (word c.at)) (arguments_front c)

signed_front : (minus : Bool) (n : Num) → IsFront (spell_signed minus n)
signed_front false n = one_front (num_symbol n)
signed_front true n = both_front (λ r. sign (marks.Operator ops.Sub) ∷ r) (λ r. num_symbol n ∷ r) (one_front (sign (marks.Operator ops.Sub))) (one_front (num_symbol n))

pub rescue_front : (x : Option Rescue) → IsFront (spell_rescue_clause x)
rescue_front None = no_front
rescue_front (Some x) = both_front (λ r. sign marks.Rescue ∷ r) (spell_signed x.minus x.num) (one_front (sign marks.Rescue)) (signed_front x.minus x.num)

-- the plain names of ports can be written where the ports can

module _ {A : Type 0} (f : A → List Symbol → List Symbol) (mapped : Port → A) (enters : (p : Port) (s : List Symbol) → IsWritable (word p.at) → AreWritable s → AreWritable (f (mapped p) s)) where
  plain_behind : (ps : List Port) (r s : List Symbol) → AreWritable (each (after_comma spell_port) ps r) → AreWritable s → AreWritable (each (after_comma f) (map mapped ps) s)
  plain_behind [] r s h k = k
  plain_behind (p ∷ ps) r s h k =
      (tt, enters p (each (after_comma f) (map mapped ps) s) h.1.1.0 (plain_behind ps r s ((port_front p).leaves (each (after_comma spell_port) ps r) h.1) k))

  plain_writable : (ps : List Port) (r s : List Symbol) → AreWritable (separated spell_port ps r) → AreWritable s → AreWritable (separated f (map mapped ps) s)
  plain_writable [] r s h k = k
  plain_writable (p ∷ ps) r s h k =
      enters p (each (after_comma f) (map mapped ps) s) h.1.0 (plain_behind ps r s ((port_front p).leaves (each (after_comma spell_port) ps r) h) k)

pub plain_arguments : (ins outs : List Port) (r s : List Symbol) → AreWritable (spell_interface spell_port ins spell_port outs r) → AreWritable s → AreWritable (spell_interface spell_arg (map plain ins) spell_out (map plain_out outs) s)
plain_arguments ins outs r s h k =
    let behind = sign marks.CloseParen ∷ sign marks.Out ∷ sign marks.OpenParen ∷ separated spell_port outs (sign marks.CloseParen ∷ r) in
    let outs_are = ((separated_front spell_port port_front ins).leaves behind h.1.1).1.1.1 in
    let enters : (p : Port) (s : List Symbol) → IsWritable (word p.at) → AreWritable s → AreWritable (spell_arg (plain p) s) = λ p s named k. (named, k) in
    let outs_enter : (p : Port) (s : List Symbol) → IsWritable (word p.at) → AreWritable s → AreWritable (spell_out (plain_out p) s) = λ p s named k. (named, k) in
    let outs_plain : AreWritable (separated spell_out (map plain_out outs) (sign marks.CloseParen ∷ s)) =
    plain_writable spell_out plain_out outs_enter outs (sign marks.CloseParen ∷ r) (sign marks.CloseParen ∷ s) outs_are (tt, k) in
    (tt, (tt, plain_writable spell_arg plain enters ins behind _ h.1.1 (tt, (tt, (tt, outs_plain)))))
