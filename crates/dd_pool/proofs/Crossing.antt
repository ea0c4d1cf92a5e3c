-- Pools, and slots with versions, may go to any thread, where the store's slots may.
use denote.Param.Send.{IsSend, IsSync, sendable}
use denote.RattleType.{RattleType}
use denote.Ref.{NamedLft}
use Rattle.std.proofs.Crossing.{crosses}
use Rattle.dd_blocks.proofs.plan.Plan.TheSendSync.{the_sync as plan_sync}
use Rattle.dd_spans.proofs.run_map.RunMap.TheSendSync.{the_send as map_send}
use Rattle.dd_mark.proofs.Sent.{told_send}
use Rattle.dd_stamps.proofs.Crossing.{stamped_send}
use Rattle.dd_store.specs.declared.store.Slot.{Ghosts}
use Rattle.dd_pool.specs.contracts.copies.Copies as C
use Rattle.dd_pool.specs.contracts.spilled.Spilled as P
use Rattle.dd_pool.specs.contracts.pool.Pool as Q
use Rattle.dd_store.specs.declared.store.Store.{Ghosts as StoreGhosts}

copies_field_send : (a : NamedLft) → IsSend (C.the_field a).row
copies_field_send a = search (sendable, crosses, plan_sync, stamped_send) depth 40

pub spilled_send : (a : NamedLft) (S : RattleType) (h : Ghosts S.Denot) → IsSend S → IsSend (P.the_row a S h)
spilled_send a S h s = search (sendable, crosses, plan_sync, map_send, told_send) depth 40

pub pool_send : (a : NamedLft) (D S : RattleType) (g : StoreGhosts D.Denot S.Denot) (h : Ghosts S.Denot) → IsSend S → IsSend (Q.the_row a D S g h)
pool_send a D S g h s = search (sendable, crosses, plan_sync, copies_field_send, spilled_send) depth 40

pub pool_field_send : (a : NamedLft) (D S : RattleType) (g : StoreGhosts D.Denot S.Denot) (h : Ghosts S.Denot) → IsSend S → IsSend (Q.the_field a D S g h).row
pool_field_send a D S g h s = search (sendable, crosses, plan_sync, copies_field_send, spilled_send) depth 40
