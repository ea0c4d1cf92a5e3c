-- A journal as text: a line for each entry, and the text of a script with the lines of each row below what the row prints.
use Rattle.std.specs.Prelude.{ℕ, suc, codes, nat_eq, List, [], ◌∷◌, ◌++◌}
use Rattle.std.specs.Fmt.{decimal}
use Rattle.std.specs.List.{filter, flat_map}
use Rattle.dd_blocks.specs.declared.plan.Plan.{Plan}
use Rattle.dd_meaning.specs.Text.{text_with}
use Rattle.dd_machine.specs.declared.entry.Entry.{Entry}
use Rattle.dd_machine.specs.declared.event.Event.{Event}
use Rattle.dd_machine.specs.declared.event.Event.TheVariants.{Ask, Rest, Put, Shift, Free, Begin, Hold, Pick, Gone, Make, Call, Come, Lend, Copy, Claim, Finish, Back, Close}
use Rattle.dd_machine.specs.Words.{statement}

-- the word of an event, and its numbers
abbrev pub event_word : Event → List ℕ
event_word (Ask space block) = codes "ask"
event_word Rest = codes "rest"
event_word (Put block) = codes "put"
event_word (Shift block space) = codes "shift"
event_word (Free space block) = codes "free"
event_word (Begin region) = codes "begin"
event_word (Hold task) = codes "hold"
event_word (Pick space block) = codes "pick"
event_word (Gone space block) = codes "gone"
event_word (Make task block) = codes "make"
event_word (Call space block) = codes "call"
event_word (Come space block) = codes "come"
event_word (Lend task block source) = codes "lend"
event_word (Copy task block source count) = codes "copy"
event_word (Claim task worker) = codes "claim"
event_word (Finish task) = codes "finish"
event_word (Back block source count) = codes "back"
event_word (Close region) = codes "close"

abbrev pub event_numbers : Event → List ℕ
event_numbers (Ask space block) = space ∷ block ∷ []
event_numbers Rest = []
event_numbers (Put block) = block ∷ []
event_numbers (Shift block space) = block ∷ space ∷ []
event_numbers (Free space block) = space ∷ block ∷ []
event_numbers (Begin region) = region ∷ []
event_numbers (Hold task) = task ∷ []
event_numbers (Pick space block) = space ∷ block ∷ []
event_numbers (Gone space block) = space ∷ block ∷ []
event_numbers (Make task block) = task ∷ block ∷ []
event_numbers (Call space block) = space ∷ block ∷ []
event_numbers (Come space block) = space ∷ block ∷ []
event_numbers (Lend task block source) = task ∷ block ∷ source ∷ []
event_numbers (Copy task block source count) = task ∷ block ∷ source ∷ count ∷ []
event_numbers (Claim task worker) = task ∷ worker ∷ []
event_numbers (Finish task) = task ∷ []
event_numbers (Back block source count) = block ∷ source ∷ count ∷ []
event_numbers (Close region) = region ∷ []

-- the line of an event: `! `, its word, each number behind a space, and a line feed
abbrev pub journal_line : Event → List ℕ
journal_line event = codes "! " ++ event_word event ++ flat_map (λ n. 32 ∷ decimal n) (event_numbers event) ++ 10 ∷ []

abbrev pub journal_lines : List Entry → List ℕ
journal_lines entries = flat_map (λ (entry : Entry). journal_line entry.event) entries

-- the entries that have the line of a row
abbrev pub entries_at : Plan → List Entry → ℕ → List Entry
entries_at plan entries row = filter (λ (entry : Entry). nat_eq entry.line (statement plan row).line) entries

-- the text of a script where the journal's lines of a row stand below what the row prints
abbrev pub text_with_journal : Plan → List Entry → List ℕ
text_with_journal plan entries = text_with plan (λ above. journal_lines (entries_at plan entries (suc above)))
