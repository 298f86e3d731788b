-- The texts of calls.
use Rattle.std.specs.Prelude.{ℕ, List, ◌++◌, flat_map, codes}
use Rattle.p3l_ast.specs.declared.call.Sub.{Sub}
use Rattle.p3l_ast.specs.declared.call.Sub.TheVariants.{Whole, Free}
use Rattle.p3l_ast.specs.declared.call.Arg.{Arg}
use Rattle.p3l_ast.specs.declared.call.OutArg.{OutArg}
use Rattle.p3l_ast.specs.declared.call.OutArg.TheVariants.{Fresh, Old}
use Rattle.p3l_ast.specs.declared.call.Call.{Call}
use Rattle.p3l_print.specs.Printer.{interface_text}
use Rattle.p3l_print.specs.Port.{port_text}

-- a whole dimension has empty brackets, a free index its name after `*`
abbrev pub sub_text : Sub → List ℕ
sub_text Whole = codes "[]"
sub_text (Free spot) = codes "[*" ++ spot.name ++ codes "]"

abbrev pub arg_text : Arg → List ℕ
arg_text arg = arg.at.name ++ flat_map sub_text arg.subs

abbrev pub out_arg_text : OutArg → List ℕ
out_arg_text (Fresh port) = port_text port
out_arg_text (Old arg) = arg_text arg

abbrev pub call_text : Call → List ℕ
call_text call = call.at.name ++ interface_text arg_text call.ins out_arg_text call.outs
