-- What a life had come to before its file was damaged is found again after a mending.
use Rattle.{std.proofs.Common.{◌≡◌, refl, sym, ◌∙◌}, df_base.specs.{Image.{Image}, Log.{now}}, df_units.specs.Bytes.{unit_at}}
use Rattle.{df_theory.{specs.{Found.{IsFound}, View.{View}}, proofs.Laws.{one_found_law}}, df_session.specs.Below.{DataFile, shape}}
use Rattle.df_mirror.proofs.Cited.{ends_well, mended_is_opened}
use Rattle.df_lifetime.{specs.{Life.{MayHave}, Mending.{MendedLifeGoesOn}}, proofs.{Agains.{every_life_is_lived, may_reopen}, Found.{acknowledged_is_found}, Lives.{every_life_goes_on}}}

pub mended_life_goes_on : MendedLifeGoesOn
mended_life_goes_on first view older b whole t o n chapters old new status is tell well to again life chance same can =
    let file : DataFile = is.base.file in let lived = every_life_is_lived file older b t.shown again in let both =
    mended_is_opened view (record { log = b.log; shown = t.shown }) t o n older old new status is tell refl well to can.found (λ second.
    can.unspent) can.within (may_reopen file older b n.shown lived can.spared) can.last in
    let goes = every_life_goes_on file first whole chapters life chance in
    let left : now b.log ≡ whole.shown = (λ i sector. sym (lived.1.shows sector) i) ∙ sym same in
    let shows : now whole.log ≡ whole.shown = λ i sector. sym (goes.may.honest.shows sector) i in
    let there : IsFound (shape file) (unit_at file.layout file.cluster whole.shown) view = rw left at can.found in
    let one : goes.view ≡ view =
    one_found_law (shape file) (unit_at file.layout file.cluster whole.shown) goes.view view (rw shows at goes.may.found) there in
    let end = ends_well is.mirrored.result is.mirrored.text new.written status is.mirrored.tells well in record {
      known = is.mirrored.shown end.0 n end.1 to;
      found = both.0;
      opens = both.1;
      had = rw one at goes.had;
      there = acknowledged_is_found file first whole chapters view life chance there;
    }
