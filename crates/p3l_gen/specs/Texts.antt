-- The texts that are generated: a program, costs of it, and a stream of items.
use Rattle.std.specs.Prelude.{ℕ, ◌+◌, ◌%◌, ◌==◌, List, [], ◌++◌, codes, if◌then◌else◌}
use Rattle.std.specs.Fmt.{decimal}
use Rattle.std.specs.List.{flat_map, range_with_len}

-- the program in front of the factor: a scaling of an array,
abbrev pub program_head : List ℕ
program_head = codes "const N = 16;\n\nseq scale in(int a[N]) out(int b[N])\n${\n  int i;\n  for (i = 0; i < N; i = i + 1) {\n    b[i] = a[i] * "

-- and after it: a filter, which a farm applies, a sum, and the pipe of the three
abbrev pub program_tail : List ℕ
program_tail = codes ";\n  }\n}$\nend seq\n\nseq filter in(int a[N]) out(int b[N])\n${\n  int i;\n  int j;\n  for (i = 0; i < N; i = i + 1) {\n    for (j = 0; j < N; j = j + 1) {\n      b[i] = b[i] + (j + 1) * a[(i + j) % N];\n    }\n  }\n}$\nend seq\n\nfarm filters in(int a[N]) out(int b[N])\n  filter in(a) out(b)\nend farm\n\nseq add in(int x, int y) out(int z)\n${\n  z = x + y;\n}$\nend seq\n\nreduce total in(int a[N]) out(int s)\n  add in(a[*i]) out(s)\nend reduce\n\npipe main in(int a[N]) out(int s)\n  scale in(a) out(int b[N])\n  filters in(b) out(int c[N])\n  total in(c) out(s)\nend pipe\n"

-- the factor of the scaling is one of 2 to 6
abbrev pub factor_of : ℕ → ℕ
factor_of n = n % 5 + 2

abbrev pub program_text : ℕ → List ℕ
program_text n = program_head ++ (decimal (factor_of n) ++ program_tail)

abbrev pub costs_text : List ℕ
costs_text = codes "setup = 10\nword = 1\n[seq]\nscale = 20\nfilter = 400\nadd = 5\n"

-- the words of an array
abbrev pub words_each : ℕ
words_each = 16

-- word i of a line that begins with this number
abbrev pub word_text : ℕ → ℕ → List ℕ
word_text first i = (if i == 0 then [] else codes " ") ++ decimal (first + i)

-- a line: the numbers from one on
abbrev pub line_text : ℕ → List ℕ
line_text first = flat_map (word_text first) (range_with_len 0 words_each) ++ codes "\n"

-- the stream: line k, from 1, begins with the number n + k
abbrev pub stream_text : (n items : ℕ) → List ℕ
stream_text n items = flat_map (λ k. line_text (n + k)) (range_with_len 1 items)
