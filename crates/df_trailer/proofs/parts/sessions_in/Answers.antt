use Rattle.std.proofs.{Common.{◌≡◌, ◌+◌, ◌*◌, ◌∙◌, ◌++◌, ℕ, List, [], ◌∷◌, None, map, ap, sym, arith}, lemmas.List.{map-append}}
use Rattle.df_sessions.specs.declared.session.Session as table
use Rattle.df_theory.specs.Units as model
use Rattle.df_trailer.{specs.{Rooms.{without_reply}, Text.{read_sessions, session}}, proofs.Sessions.{read_more}}
use Rattle.df_trailer.proofs.parts.sessions_in.Goals as goal

pub loop-place-preserved : goal.loop-place-preserved
loop-place-preserved c = let n : ℕ = c.loop-place.place in let from : ℕ = c.u32_at.result + 8 in
    let read : List model.Session = read_sessions n from c.args.head.now in let one : table.Session =
    record { client = c.u128_at.result; request = c.u64_at.result; op = c.u64_at-in-loop-place.result; reply = None } in
    let same : one ≡ without_reply (session (from + 32 * n) c.args.head.now) =
    λ i. record { client = c.u128_at.ensures i; request = c.u64_at.ensures i; op = c.u64_at-in-loop-place.ensures i; reply = None } in (
      omega (arith, c.push.ensures.len, c.loop-place.invariant.0),
      c.push.ensures.items ∙ ap (λ (ss : List table.Session). ss ++ one ∷ []) c.loop-place.invariant.1
          ∙ ap (λ (s : table.Session). map without_reply read ++ s ∷ []) same
          ∙ sym (map-append without_reply read (session (from + 32 * n) c.args.head.now ∷ []))
          ∙ ap (map without_reply) (read_more n from c.args.head.now),
    )
