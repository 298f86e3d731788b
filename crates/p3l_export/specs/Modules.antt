-- The table of the modules.
use Rattle.std.specs.Prelude.{ℕ, ℤ, List, ◌++◌, codes, Option, None, Some, if◌then◌else◌, int_lt, negsuc}
use Rattle.std.specs.Fmt.{decimal, signed_decimal}
use Rattle.p3l_skel.specs.declared.tree.ModuleInfo.{ModuleInfo}
use Rattle.p3l_skel.specs.declared.tree.ModuleKind.{ModuleKind}
use Rattle.p3l_skel.specs.declared.tree.ModuleKind.TheVariants.{Seq, Comp, Pipe, Farm, Map, Reduce, Loop}
use Rattle.p3l_export.specs.Lines.{table}
use Rattle.p3l_export.specs.Numbered.{numbered}

-- the C function of the body of a module with this number, and none where it has no body
abbrev pub body_name : ℕ → ModuleKind → List ℕ
body_name number Seq = codes "p3l_body_" ++ decimal number
body_name number Comp = codes "NULL"
body_name number Pipe = codes "NULL"
body_name number Farm = codes "NULL"
body_name number Map = codes "NULL"
body_name number Reduce = codes "NULL"
body_name number Loop = codes "NULL"

-- a number of 64 bits as C reads it: the digits of the least one without its sign are too large for C, so that one has a name
abbrev pub constant_text : ℤ → List ℕ
constant_text number =
    if int_lt number (negsuc 9223372036854775806) then codes "INT64_MIN" else signed_decimal number

-- the text of a module's rescue number: 1 and the number, or two zeros without one
abbrev pub rescue_text : Option ℤ → List ℕ
rescue_text None = codes "0, 0"
rescue_text (Some number) = codes "1, " ++ constant_text number

-- the row of a module: its name, its body, its rescue number
unfoldable pub module_line : ℕ → ModuleInfo → List ℕ
module_line number info =
    codes "    { \"" ++ (info.name ++ (codes "\", " ++ (body_name number info.kind ++ (codes ", "
    ++ (rescue_text info.rescue ++ codes " },\n")))))

-- the table of the modules
unfoldable pub modules_text : List ModuleInfo → List ℕ
modules_text modules =
    table (codes "name, body, whether it has a rescue number, the number") (codes "struct module_row MODULE")
    (numbered module_line 0 modules)
