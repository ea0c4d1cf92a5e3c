-- A run between two rows of its script.
use Rattle.std.specs.Prelude.{◌≡◌, ℕ, suc, ◌-◌, ◌≤◌, cond, not, nat_eq, List, [], ◌∷◌, map, filter, take, None}
use Rattle.std.specs.List.{flat_map}
use Rattle.dd_blocks.specs.declared.plan.Plan.{Plan}
use Rattle.dd_blocks.specs.declared.what.What.{What}
use Rattle.dd_blocks.specs.declared.what.What.TheVariants.{Put as Array, Print, Sum, Moved, Same, Drop, MoveTo, Region}
use Rattle.dd_blocks.specs.Lives.{names_ended, names_given}
use Rattle.dd_meaning.specs.Text.{regions_above}
use Rattle.dd_meaning.specs.Versions.{tasks_through}
use Rattle.dd_machine.specs.declared.entry.Entry.{Entry}
use Rattle.dd_machine.specs.declared.event.Event.{Event}
use Rattle.dd_machine.specs.declared.event.Event.TheVariants.{Ask, Rest, Put, Free, Begin, Close}
use Rattle.dd_machine.specs.Owed.{blocks_by_rows, blocks_of, entries_from, left, shifted_to}
use Rattle.dd_machine.specs.States.{State}
use Rattle.dd_machine.specs.Words.{rows, statement}

-- The first i rows were run: the entries of the others are left, no region is open, and nothing is pinned.
pub record IsAtRow (plan : Plan) (i : ℕ) (st : State) : Type 0 where
  pub within : i ≤ rows plan
  pub region : st.region ≡ None
  pub pin : st.pin ≡ None
  pub left : left plan st.progress ≡ entries_from plan (suc i) (rows plan - i)

-- the statement of the row that comes next, which has i rows above it
abbrev pub next_what : Plan → ℕ → What
next_what plan i = (statement plan (suc i)).what

-- the events for which a statement asks, by the homes that the state has
abbrev pub events_now : Plan → State → What → List Event
events_now plan st (Array array) = flat_map (λ b. Ask (st.homes b) b ∷ Put b ∷ Rest ∷ []) (blocks_of plan array)
events_now plan st (Print array) = flat_map (λ b. Ask (st.homes b) b ∷ Rest ∷ []) (blocks_by_rows plan array)
events_now plan st (Sum array name) = flat_map (λ b. Ask (st.homes b) b ∷ Rest ∷ []) (blocks_of plan array)
events_now plan st Moved = []
events_now plan st (Same array) = []
events_now plan st (Drop array last) = cond last (flat_map (λ b. Free (st.homes b) b ∷ []) (blocks_of plan array)) []
events_now plan st (MoveTo array space) = flat_map (shifted_to space) (filter (λ b. not (nat_eq (st.homes b) space)) (blocks_of plan array))
events_now plan st (Region region) = Begin region ∷ Close region ∷ []

-- events as entries of the row that comes next
abbrev pub entries_now : Plan → ℕ → List Event → List Entry
entries_now plan i events = map (λ event. record { line = (statement plan (suc i)).line; event = event }) events

-- how many names the first i rows leave an array
abbrev pub names_at : Plan → ℕ → ℕ → ℕ
names_at plan i array = names_given array (take i plan.statements) - names_ended array (take i plan.statements)

-- how many tasks they run
abbrev pub tasks_above : Plan → ℕ → ℕ
tasks_above plan i = tasks_through plan (regions_above plan i)
