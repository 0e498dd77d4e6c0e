use Rattle.std.proofs.Common.{refl}
use Rattle.rules.proofs.Filling.{put_told}
use Rattle.rules.proofs.sink.Sink.put.Goals as goal

pub returns : goal.returns
returns c =
    let e = c.push-self.ensures in
    let r = c.push-self.result in
    put_told c.args.self.now (record { text = c.args.self.now.text; list = c.push-self.new.self; last = r }) c.args.part refl e.space r refl e.variant e.after e.slots e.refused
