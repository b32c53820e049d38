pub mod WorkedOver
