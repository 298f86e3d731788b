-- The tables of the nodes and of their parts.
use Rattle.std.specs.Prelude.{ℕ, List, ◌++◌, codes, length}
use Rattle.std.specs.Fmt.{decimal}
use Rattle.std.specs.List.{flat_map}
use Rattle.p3l_skel.specs.declared.tree.Form.{Form}
use Rattle.p3l_skel.specs.declared.tree.Form.TheVariants.{Seq, Comp, Pipe, Farm, Map, Reduce, Loop}
use Rattle.p3l_skel.specs.declared.tree.Node.{Node}
use Rattle.p3l_export.specs.Lines.{closed_table, numbers_line, table}

-- the engine's name of a form
abbrev pub form_name : Form → List ℕ
form_name Seq = codes "FORM_SEQ"
form_name Comp = codes "FORM_COMP"
form_name Pipe = codes "FORM_PIPE"
form_name (Farm w) = codes "FORM_FARM"
form_name (Map w cut) = codes "FORM_MAP"
form_name (Reduce w len elem) = codes "FORM_REDUCE"
form_name (Loop turns tokens) = codes "FORM_LOOP"

-- the first number of a form: the size of a map's first free index, the elements of a reduce, the turns of a loop
abbrev pub first_number : Form → ℕ
first_number Seq = 0
first_number Comp = 0
first_number Pipe = 0
first_number (Farm w) = 0
first_number (Map w cut) = cut.first
first_number (Reduce w len elem) = len
first_number (Loop turns tokens) = turns

-- the second one: the size of a map's second free index, the words of a reduce's element, the tokens of a loop
abbrev pub second_number : Form → ℕ
second_number Seq = 0
second_number Comp = 0
second_number Pipe = 0
second_number (Farm w) = 0
second_number (Map w cut) = cut.second
second_number (Reduce w len elem) = elem
second_number (Loop turns tokens) = tokens

-- the number of slices of an element of a map
abbrev pub in_slices : Form → ℕ
in_slices Seq = 0
in_slices Comp = 0
in_slices Pipe = 0
in_slices (Farm w) = 0
in_slices (Map w cut) = length cut.ins
in_slices (Reduce w len elem) = 0
in_slices (Loop turns tokens) = 0

-- the number of slices of its result
abbrev pub out_slices : Form → ℕ
out_slices Seq = 0
out_slices Comp = 0
out_slices Pipe = 0
out_slices (Farm w) = 0
out_slices (Map w cut) = length cut.outs
out_slices (Reduce w len elem) = 0
out_slices (Loop turns tokens) = 0

-- the numbers of a form's row
abbrev pub form_numbers : Form → List ℕ
form_numbers form =
    decimal (first_number form) ++ (codes ", " ++ (decimal (second_number form) ++ (codes ", "
    ++ (decimal (in_slices form) ++ (codes ", " ++ decimal (out_slices form))))))

-- the first half of a node's row: its form, its module and its words
abbrev pub node_words : Node → List ℕ
node_words node =
    codes "    { " ++ (form_name node.form ++ (codes ", " ++ (decimal node.«module» ++ (codes ", " ++ (decimal node.ins
    ++ (codes ", " ++ decimal node.outs))))))

-- the second half: how many parts it has, and the numbers of its form
abbrev pub node_numbers : Node → List ℕ
node_numbers node = codes ", " ++ (decimal (length node.parts) ++ (codes ", " ++ (form_numbers node.form ++ codes " },\n")))

-- the row of a node
unfoldable pub node_line : Node → List ℕ
node_line node = node_words node ++ node_numbers node

-- the table of the nodes
unfoldable pub nodes_text : List Node → List ℕ
nodes_text nodes =
    table (codes "form, module, words in, words out, parts, two numbers of the form, slices in, slices out")
    (codes "struct node_row NODE") (flat_map node_line nodes)

-- the parts of a node
abbrev pub parts_line : Node → List ℕ
parts_line node = numbers_line node.parts

-- the parts of all nodes
unfoldable pub parts_text : List Node → List ℕ
parts_text nodes = closed_table (codes "the parts of the nodes, node by node") (codes "int32_t PART") (flat_map parts_line nodes) (codes "-1")
