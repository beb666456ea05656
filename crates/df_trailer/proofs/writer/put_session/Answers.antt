use Rattle.{std.proofs.Common.{◌++◌, ℕ, List}, df_base.specs.Fields.{spelled}}
use Rattle.df_trailer.{specs.Rooms.{trailer_session}, proofs.Shown.{grown, one_session, shown_all}}
use Rattle.df_trailer.proofs.writer.put_session.Goals as goal

pub returns-clause-shown : goal.returns-clause-shown
returns-clause-shown c = λ text size were. let s = c.args.session.now in let t1 : List ℕ = text ++ spelled 16 s.client in
    let t2 : List ℕ = t1 ++ spelled 8 s.request in
    let n1 = grown 16 s.client text c.args.at c.put_u128-next.result size c.put_u128-next.ensures.next in
    let n2 = grown 8 s.request t1 c.put_u128-next.result c.put_u64-next.result n1 c.put_u64-next.ensures.next in
    shown_all c.args.from c.put_u64.new.room (t2 ++ spelled 8 s.op) _ (one_session text (trailer_session s))
    (c.put_u64.ensures.shown t2 n2 (c.put_u64-next.ensures.shown t1 n1 (c.put_u128-next.ensures.shown text size were)))
