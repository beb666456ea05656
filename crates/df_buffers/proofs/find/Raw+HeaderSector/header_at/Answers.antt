use Rattle.{std.proofs.Common.{◌≡◌, List, ℕ, [], length, ◌∙◌, ap, rules, subst}, df_format.specs.Message.{Message}}
use Rattle.df_buffers.{specs.{Found.{FindsUnit}, Rooms.{header_bytes}}, proofs.Finds.{found_header, header_there, none_any, sector_size}}
use Rattle.df_buffers.proofs.find.Raw+HeaderSector.header_at.Goals as goal

pub header_bytes-requires-clause-sector : goal.header_bytes-requires-clause-sector
header_bytes-requires-clause-sector c = ap (λ (l : List ℕ). length l) c.deref.ensures.value ∙ c.self.invariant ∙ sector_size c.self.inside.layout

pub returns-clause-found : goal.returns-clause-found
returns-clause-found c = let f = c.in_ok-header.ensures.found in
    let here : c.header_bytes.result.now ≡ header_bytes c.args.place c.args.self.now.bytes = search rules in
    let one : Message = record { header = c.in_ok-header.header; body = [] } in
    subst (λ (bytes : List ℕ). FindsUnit c.args.identity.now bytes one) here
    (found_header c.args.identity.now c.header_bytes.result.now f.0 c.in_ok-header.header c.requires.zone f.1 f.2)

pub returns-clause-there : goal.returns-clause-there
returns-clause-there c = let f = c.in_ok-header.ensures.found in
    header_there c.args.identity.now c.header_bytes.result.now f.0 c.in_ok-header.header c.requires.zone f.1 f.2 f.3

pub returns-in_err-header-clause-any : goal.returns-in_err-header-clause-any
returns-in_err-header-clause-any c = λ any. (
    let e = c.in_err-header in
    let none = none_any c.args.identity.now c.header_bytes.result.now e.field-0.0 any e.ensures.unwanted e.ensures.class in
    search (rules, none, c.from_residual.ensures))
