pub mod RoomLaw
