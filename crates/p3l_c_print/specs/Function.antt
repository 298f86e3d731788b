-- The text of a whole function.
use Rattle.std.specs.Prelude.{ℕ, zero, suc, ◌+◌, Bool, true, false, List, [], ◌∷◌, ◌++◌, codes, nat_le, if◌then◌else◌}
use Rattle.std.specs.Fmt.{decimal}
use Rattle.p3l_types.specs.Shape.{product}
use Rattle.p3l_body.specs.Seq.{SeqTree}
use Rattle.p3l_c.specs.Translate.{Shapes}
use Rattle.p3l_c.specs.Condition.{Entry, takes, zero_object, Function, function_of}
use Rattle.p3l_c_print.specs.Name.{Names, name_text, names_of}
use Rattle.p3l_c_print.specs.Text.{lines_text}
use Rattle.p3l_c.specs.Temps.{temps_of}

abbrev pub size_text : ℕ → List ℕ
size_text size = codes "[" ++ (decimal size ++ codes "]")

unfoldable pub sizes_text : List ℕ → List ℕ
sizes_text [] = []
sizes_text (size ∷ sizes) = size_text size ++ sizes_text sizes

-- an array of more than 512 words has static storage, as stacks may be small
abbrev pub most_automatic : ℕ
most_automatic = 512

abbrev pub is_automatic : List ℕ → Bool
is_automatic sizes = nat_le (product sizes) most_automatic

abbrev pub storage_text : Bool → List ℕ
storage_text true = codes "    int64_t "
storage_text false = codes "    static int64_t "

-- an object that takes its words from `in`
abbrev pub taken_text : List ℕ → List ℕ → ℕ → List ℕ
taken_text name sizes from =
    storage_text (is_automatic sizes) ++ (name ++ (sizes_text sizes ++ (codes ";\n    memcpy(&" ++ (name ++ (codes ", in + " ++ (decimal from
    ++ (codes ", sizeof " ++ (name ++ codes ");\n"))))))))

-- an object whose words are 0
abbrev pub zero_text : List ℕ → List ℕ → List ℕ
zero_text name [] = codes "    int64_t " ++ (name ++ codes " = 0;\n")
zero_text name (size ∷ sizes) =
    if is_automatic (size ∷ sizes) then codes "    int64_t " ++ (name ++ (sizes_text (size ∷ sizes) ++ codes " = {0};\n"))
    else codes "    static int64_t " ++ (name ++ (sizes_text (size ∷ sizes) ++ (codes ";\n    memset(&" ++ (name ++ (codes ", 0, sizeof " ++ (name ++ codes ");\n"))))))

abbrev pub entry_text : Names → Entry → List ℕ
entry_text names (takes x sizes from) = taken_text (name_text names x) sizes from
entry_text names (zero_object x sizes) = zero_text (name_text names x) sizes

unfoldable pub entries_text : Names → List Entry → List ℕ
entries_text names [] = []
entries_text names (entry ∷ entries) = entry_text names entry ++ entries_text names entries

-- the declarations of temps

abbrev pub temp_line : ℕ → List ℕ
temp_line n = codes "    int64_t t" ++ (decimal n ++ codes ";\n")

unfoldable pub temps_text : ℕ → List ℕ
temps_text zero = []
temps_text (suc n) = temps_text n ++ temp_line n

-- an object that is copied to `out`
abbrev pub out_text : List ℕ → ℕ → List ℕ
out_text name from = codes "    memcpy(out + " ++ (decimal from ++ (codes ", &" ++ (name ++ (codes ", sizeof " ++ (name ++ codes ");\n")))))

-- the objects that are copied to `out`, from a place on
unfoldable pub outs_text : Names → ℕ → Shapes → List ℕ
outs_text names from [] = []
outs_text names from (out ∷ outs) = out_text (name_text names out.0) from ++ outs_text names (from + product out.1) outs

-- a comment with the name of a module
abbrev pub opening_text : ℕ → List ℕ
opening_text home =
    codes "static int64_t p3l_body_" ++ (decimal home ++ codes "(const int64_t *restrict in, int64_t *restrict out)\n{\n")

abbrev pub turns_text : List ℕ
turns_text = codes "    uint64_t turns = 0;\n    (void)in;\n    (void)out;\n    (void)turns;\n"

-- THE TEXT of a function with its first temps
unfoldable pub function_text : Names → ℕ → Function → List ℕ
function_text names temps f =
    opening_text names.home ++ (entries_text names f.entries ++ (temps_text temps ++ (turns_text
    ++ (lines_text names (codes "    ") f.lines ++ (outs_text names 0 f.outs ++ codes "    return 0;\n}\n")))))

-- the text of the function of a body
abbrev pub body_text : SeqTree → List ℕ
body_text seq = function_text (names_of seq) (temps_of seq.body) (function_of seq)
