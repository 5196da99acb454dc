-- `read_command`: the command's bytes, and its seven fields.
use Rattle.cursor.proofs.CommandSteps.{command_read}
use Rattle.cursor.proofs.command.read_command.Goals as goal

pub returns : goal.returns
returns c = command_read _ _ c.requires c.get.ensures c.get-2.ensures c.get-3.ensures c.get-4.ensures
    c.get-5.ensures c.get-6.ensures c.get-7.ensures
