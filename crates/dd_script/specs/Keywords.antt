-- The words that begin the statements.
use Rattle.std.specs.Prelude.{ℕ, List, codes}
use Rattle.dd_script.specs.declared.keyword.Keyword.{Keyword}
use Rattle.dd_script.specs.declared.keyword.Keyword.TheVariants.{Space, Proc, Policy, Place, Array, Same, Drop, Move, Region, Task, End, Print, Sum, Moved}

abbrev pub keyword_word : Keyword → List ℕ
keyword_word Space = codes "space"
keyword_word Proc = codes "proc"
keyword_word Policy = codes "policy"
keyword_word Place = codes "place"
keyword_word Array = codes "array"
keyword_word Same = codes "same"
keyword_word Drop = codes "drop"
keyword_word Move = codes "move"
keyword_word Region = codes "region"
keyword_word Task = codes "task"
keyword_word End = codes "end"
keyword_word Print = codes "print"
keyword_word Sum = codes "sum"
keyword_word Moved = codes "moved"
