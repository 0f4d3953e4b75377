use Rattle.quotes.specs.Message.{fields}
use Rattle.quotes.proofs.Ticked.{update_ticked}
use Rattle.quotes.proofs.board.QuoteBoard.lay.Goals as goal

pub with_update-requires : goal.with_update-requires
with_update-requires c =
    update_ticked
    c.args.self.now.quotes.security
    (fields c.args.bytes.now)
    c.in_ok-update.update
    c.in_ok-update.ensures.1
