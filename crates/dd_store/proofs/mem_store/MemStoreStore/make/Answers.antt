-- The call fails where its number is among those that are to fail.
use Rattle.std.proofs.Common.{◌≡◌, ℕ, ◌+◌, List, Contains, refl, ap, ◌∙◌, subst}
use Rattle.dd_store.specs.Views.{Failing}
use Rattle.dd_store.proofs.mem_store.MemStoreStore.make.Goals as goal

pub returns-then-fails-clause-fails : goal.returns-then-fails-clause-fails
returns-then-fails-clause-fails c =
    let makes : c.deref.result.now ≡ c.args.self.now.makes = c.deref.ensures.value ∙ ap (λ (s : Failing). s.makes) c.self.view_is in
    let calls : c.self.inside.calls ≡ c.args.self.now.calls = ap (λ (s : Failing). s.calls) c.self.view_is in
    let among = c.next_fails-fails.ensures.0 c.if-fails.true in
    ((λ _. subst (λ (n : ℕ). Contains c.args.self.now.makes (n + 1)) calls (subst (λ (l : List ℕ). Contains l (c.self.inside.calls + 1)) makes among)), (λ _. refl))
