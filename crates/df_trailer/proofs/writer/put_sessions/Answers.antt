use Rattle.std.proofs.{Common.{◌≡◌, ◌++◌, ℕ, List, [], ◌∷◌, get_or, arith, length, take, sym, ap, ◌∙◌, None}, lemmas.List.{take_all}}
use Rattle.df_sessions.specs.declared.session.Session.{Session}
use Rattle.df_trailer.{specs.{Rooms.{trailer_session}, Spelling.{spell_sessions}, Writing.{sessions_of}}, proofs.Shown.{sessions_more, shown_all, size_before}}
use Rattle.df_trailer.proofs.writer.put_sessions.Goals as goal

pub loop-session-preserved : goal.loop-session-preserved
loop-session-preserved c = (
  omega (arith, c.loop-session.invariant.0, c.put_session-at.ensures.next),
  c.put_session-at.ensures.length ∙ c.loop-session.invariant.1,
  λ text size were. let ss : List Session = c.args.sessions.now in let i : ℕ = c.loop-session.session-index in
      let d : Session = record { client = 0; request = 0; op = 0; reply = None } in
      let done : List ℕ = text ++ spell_sessions (sessions_of (take i ss)) in
      let n : length done ≡ c.loop-session.at = size_before text ss i c.args.start size (omega arith) ∙ sym c.loop-session.invariant.0 in
      shown_all c.args.from
      c.put_session-at.new.room (done ++ spell_sessions (trailer_session (get_or ss i d) ∷ [])) _ (sessions_more text ss i d (omega arith))
      (c.put_session-at.ensures.shown done n (c.loop-session.invariant.2 text size were)),
)

pub returns-clause-shown : goal.returns-clause-shown
returns-clause-shown c = λ text size were. shown_all c.args.from c.loop-session.room _ _ (ap (λ (ss : List Session).
    text ++ spell_sessions (sessions_of ss)) (take_all c.loop-session.session-index c.args.sessions.now (omega arith)))
    (c.loop-session.invariant.2 text size were)
