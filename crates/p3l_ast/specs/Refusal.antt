-- The numbers and the names of faults, as they are printed.
use Rattle.std.specs.Prelude.{ℕ, List, codes}
use Rattle.p3l_ast.specs.declared.refusal.Fault.{Fault}
use Rattle.p3l_ast.specs.declared.refusal.Fault.TheVariants.{BadByte, BadToken, Expected, NumberTooBig, NameTooLong, SourceTooLong, TooNested, UnknownName, BadSize, TooWide, Twice, NoMain, UsedBeforeDefined, Arity, TypeDiffers, Wiring, FreeIndex, BadOperator, NotInComp, LoopTypes, BadWorkers, TooManyInstances, TooDeep, TooHeavy, Undeclared, DeclaredTwice, NotArray, IsArray, WriteToIn}

-- the number of a fault
abbrev pub number_of : Fault → ℕ
number_of BadByte = 1
number_of BadToken = 2
number_of Expected = 3
number_of NumberTooBig = 4
number_of NameTooLong = 5
number_of SourceTooLong = 6
number_of TooNested = 8
number_of UnknownName = 10
number_of BadSize = 11
number_of TooWide = 12
number_of Twice = 20
number_of NoMain = 21
number_of UsedBeforeDefined = 22
number_of Arity = 23
number_of TypeDiffers = 24
number_of Wiring = 25
number_of FreeIndex = 26
number_of BadOperator = 27
number_of NotInComp = 28
number_of LoopTypes = 29
number_of BadWorkers = 30
number_of TooManyInstances = 31
number_of TooDeep = 32
number_of TooHeavy = 33
number_of Undeclared = 40
number_of DeclaredTwice = 41
number_of NotArray = 42
number_of IsArray = 43
number_of WriteToIn = 44

-- the bytes of a fault's name
abbrev pub name_of : Fault → List ℕ
name_of BadByte = codes "BadByte"
name_of BadToken = codes "BadToken"
name_of Expected = codes "Expected"
name_of NumberTooBig = codes "NumberTooBig"
name_of NameTooLong = codes "NameTooLong"
name_of SourceTooLong = codes "SourceTooLong"
name_of TooNested = codes "TooNested"
name_of UnknownName = codes "UnknownName"
name_of BadSize = codes "BadSize"
name_of TooWide = codes "TooWide"
name_of Twice = codes "Twice"
name_of NoMain = codes "NoMain"
name_of UsedBeforeDefined = codes "UsedBeforeDefined"
name_of Arity = codes "Arity"
name_of TypeDiffers = codes "TypeDiffers"
name_of Wiring = codes "Wiring"
name_of FreeIndex = codes "FreeIndex"
name_of BadOperator = codes "BadOperator"
name_of NotInComp = codes "NotInComp"
name_of LoopTypes = codes "LoopTypes"
name_of BadWorkers = codes "BadWorkers"
name_of TooManyInstances = codes "TooManyInstances"
name_of TooDeep = codes "TooDeep"
name_of TooHeavy = codes "TooHeavy"
name_of Undeclared = codes "Undeclared"
name_of DeclaredTwice = codes "DeclaredTwice"
name_of NotArray = codes "NotArray"
name_of IsArray = codes "IsArray"
name_of WriteToIn = codes "WriteToIn"
