-- What threads begin with and leave may go from thread to thread.
use denote.RattleType.{RattleType}
use denote.Param.Send.{IsSend, sendable, view_send}
use Rattle.std.proofs.Crossing.{crosses}
use Rattle.outer.specs.declared.matcher.Matcher as Matcher
use Rattle.outer.specs.declared.sink.Sink as Sink
use Rattle.atomic_table.proofs.shared.Seat.TheSendSync.{the_send as seat_send}
use Rattle.shared_buffer.proofs.shared.Hand.TheSendSync.{the_send as hand_send}
use Rattle.answers.proofs.answer.Answer.TheSendSync.{the_send as answer_send}
use Rattle.workers.proofs.task.Sent.TheSendSync.{the_send as sent_send}
use Rattle.workers.specs.contracts.done.Done as Done
use Rattle.pool.specs.contracts.kept.Kept as Kept
use Rattle.pool.specs.contracts.kept.Kept.TheInside as Inside
use Rattle.pool.specs.contracts.noted.Noted as Noted
use Rattle.pool.specs.contracts.stage.Stage as Stage
use Rattle.pool.specs.contracts.stage.Ready as Ready
use Rattle.pool.specs.contracts.stage.Left as Left

module _ (M K : RattleType) (m : Matcher.Ghosts M.Denot) (k : Sink.Ghosts K.Denot) (of_m : IsSend M) (of_k : IsSend K) where
  noted_send : IsSend (Noted.the_row M K m k)
  noted_send = search (sendable, crosses) depth 30

  done_field_send : IsSend (Done.the_field M K m k).row
  done_field_send = search (sendable, crosses, hand_send, answer_send) depth 30

  kept_send : IsSend (Kept.the_row M K m k)
  kept_send = view_send (Inside.the_row M K m k) _ _ _ _ (search (sendable, done_field_send) depth 30)

  ready_send : (S : RattleType) → IsSend S → IsSend (Ready.the_row S M K m k)
  ready_send S s = search (sendable, crosses, seat_send, sent_send, noted_send, kept_send) depth 30

  left_send : (T : RattleType) → IsSend T → IsSend (Left.the_row T M K m k)
  left_send T t = search (sendable, crosses, seat_send, sent_send, kept_send) depth 30

  pub stage_send : (S T : RattleType) → IsSend S → IsSend T → IsSend (Stage.the_row S T M K m k)
  stage_send S T s t = search (sendable, crosses, ready_send, left_send) depth 30
